-- Function 08's reply is put as it is; any other's is the table's. Assumes nothing.
use mathlib.Core.Path.{ap}
use Prim.Native.Nat.{ℕ}
use borrow.Author.Tests.{eq-eqb, ne_eqb}
use lib.Dec.{eqb}
use Rattle.rules.proofs.Choose.{via}
use Rattle.table_registers.specs.Profile.{verdict}
use Rattle.station.proofs.Done.{served-as}
use Rattle.modbus_line.proofs.Bodies.{eight, seven}
use Rattle.modbus_line.proofs.reply.Goals as goal

pub returns-then-byte_at-eq8 : goal.returns-then-byte_at-eq8
returns-then-byte_at-eq8 c = let a = c.args in
    eight a.counters (verdict a.profile a.attributes.now) a.words.now a.body.now (via (ap (λ (f : ℕ). eqb f 0x08) c.byte_at.ensures) (eq-eqb _ _ c.if-byte_at-eq8.true)) (c.diagnose.ensures (verdict a.profile a.attributes.now) a.words.now)

pub returns : goal.returns
returns c = let a = c.args in
    served-as (seven a.counters (verdict a.profile a.attributes.now) a.words.now a.body.now (via (ap (λ (f : ℕ). eqb f 0x08) c.byte_at.ensures) (ne_eqb _ _ c.if-byte_at-eq8.false))) c.answer.ensures
