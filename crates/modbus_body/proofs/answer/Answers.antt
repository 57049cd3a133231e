-- Each way says which function the body names. Assumes nothing.
use mathlib.Core.Path.{refl, ap}
use Prim.Native.Nat.{ℕ}
use borrow.Author.Tests.{ne_eqb}
use lib.Dec.{eqb}
use Rattle.rules.proofs.Choose.{via}
use Rattle.station.proofs.Done.{served, served-as}
use Rattle.modbus_body.specs.Body.{body_asks}
use Rattle.modbus_body.proofs.answer.Goals as goal

pub returns-in-1 : goal.returns-in-1
unfolding body_asks
returns-in-1 c = served-as (rw (← c.byte_at-function.ensures, c.in-1.is)) (c.read_coils.ensures c.args.profile)

pub returns-in-3 : goal.returns-in-3
unfolding body_asks
returns-in-3 c = served-as (rw (← c.byte_at-function.ensures, c.in-3.is)) (c.read_registers.ensures c.args.profile)

pub returns-in_default : goal.returns-in_default
unfolding body_asks
returns-in_default c = served (rw (via (ap (λ (f : ℕ). eqb f 1) c.byte_at-function.ensures) (ne_eqb _ _ c.in_default.in_default-own.rest.0.1), via (ap (λ (f : ℕ). eqb f 3) c.byte_at-function.ensures) (ne_eqb _ _ c.in_default.in_default-own.rest.1)) c.write-said.ensures) c.settle.ensures refl
