-- What the reply leaves of the counters is told by its first byte. Assumes nothing.
use mathlib.Core.Bool.{Bool}
use mathlib.Core.List.{List}
use mathlib.Core.Path.{ap, ◌∙◌}
use Prim.Native.Nat.{ℕ}
use native.Mathlib.Omega.{arith}
use lib.Dec.{ltb}
use lib.ListN.{get_or}
use Rattle.modbus_counters.specs.Diagnosis as dg
use Rattle.table_registers.specs.Profile.{verdict}
use Rattle.modbus_body.specs.Body.{reply_to}
use Rattle.modbus_line.specs.Framing.{answered}
use Rattle.modbus_line.proofs.Bodies.{tells-line, first-in-room}
use Rattle.modbus_line.proofs.answer.Goals as goal

pub returns : goal.returns
returns c = let a = c.args in
    let m : List ℕ = reply_to a.body.now (answered a.counters (verdict a.profile a.attributes.now) a.words.now a.body.now).says in
    let tells = tells-line a.counters (verdict a.profile a.attributes.now) a.words.now a.body.now in
    record {
      served = c.reply-size.ensures;
      counters-are = c.replied.ensures
          ∙ ap (λ (t : Bool). dg.replied t a.body.now a.counters)
          (ap (λ (x : ℕ). ltb x 0x80) (c.byte_at.ensures ∙ ap (λ (l : List ℕ). get_or l a.at 0) c.reply-size.ensures.room ∙ first-in-room a.out.now m a.at (omega arith) tells.some) ∙ tells.first);
    }
