-- 11 counts, and no other number. Assumes nothing.
use mathlib.Core.Path.{ap}
use Prim.Native.Nat.{ℕ}
use borrow.Author.Tests.{eq-eqb, ne_eqb}
use lib.Dec.{eqb}
use Rattle.rules.proofs.Choose.{via}
use Rattle.modbus_counters.specs.Counters as cs
use Rattle.modbus_counters.proofs.Counters.stopped.Goals as goal

pub returns-then-number-ne11 : goal.returns-then-number-ne11
unfolding cs.counted
returns-then-number-ne11 c = rw (via (ap (λ (k : ℕ). eqb k 11) c.number.ensures) (ne_eqb _ _ c.if-number-ne11.true))

pub returns : goal.returns
unfolding cs.counted
returns c = rw (via (ap (λ (k : ℕ). eqb k 11) c.number.ensures) (eq-eqb _ _ c.if-number-ne11.false), c.more.ensures)
