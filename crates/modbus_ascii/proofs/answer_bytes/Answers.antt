-- Station, body and LRC are one message. Assumes nothing.
use mathlib.Core.Path.{◌≡◌, sym, ap, ◌∙◌}
use mathlib.Core.List.{List, [], ◌∷◌}
use Prim.Native.Nat.{ℕ, ◌+◌, ◌≤◌}
use native.Mathlib.Nat.{add_comm}
use native.Mathlib.Omega.{arith}
use lib.ListN.{length, take, length-append}
use lib.Seq.{length-take-le}
use Rattle.text_rooms.specs.Room.{overwrite}
use Rattle.checks_lrc.specs.Lrc.{lrc_of}
use Rattle.table_registers.specs.Profile.{verdict}
use Rattle.modbus_body.specs.Body.{reply_to}
use Rattle.modbus_line.specs.Framing.{answered}
use Rattle.modbus_line.proofs.Bodies.{line_small}
use Rattle.modbus_line.proofs.Framing.{framed-by}
use Rattle.modbus_ascii.proofs.answer_bytes.Goals as goal

pub overflow_add-n : goal.overflow_add-n
overflow_add-n c = let a = c.args in omega (arith, c.answer-said.ensures.served.size, line_small a.counters (verdict a.profile a.attributes.now) a.words.now a.body.now)

pub slice_bounds-lrc_of-end : goal.slice_bounds-lrc_of-end
slice_bounds-lrc_of-end c = let a = c.args in omega (arith, c.answer-said.ensures.served.size, c.answer-said.auto.out, c.put_byte.auto.out, line_small a.counters (verdict a.profile a.attributes.now) a.words.now a.body.now)

pub slice_bounds-lrc_of-end-2 : goal.slice_bounds-lrc_of-end-2
slice_bounds-lrc_of-end-2 c = let a = c.args in
    let h : c.answer-said.result.size + 1 ≤ length c.answer-said.new.out = omega (arith, c.answer-said.ensures.served.size, c.answer-said.auto.out, c.put_byte.auto.out, line_small a.counters (verdict a.profile a.attributes.now) a.words.now a.body.now) in
    sym (length-take-le _ _ h)

pub put_byte-requires-2 : goal.put_byte-requires-2
put_byte-requires-2 c = let a = c.args in omega (arith, c.answer-said.ensures.served.size, c.answer-said.auto.out, c.put_byte.auto.out, line_small a.counters (verdict a.profile a.attributes.now) a.words.now a.body.now)

pub overflow_add-result : goal.overflow_add-result
overflow_add-result c = let a = c.args in omega (arith, c.answer-said.ensures.served.size, line_small a.counters (verdict a.profile a.attributes.now) a.words.now a.body.now)

pub returns : goal.returns
returns c = let a = c.args in
    let m : List ℕ = reply_to a.body.now (answered a.counters (verdict a.profile a.attributes.now) a.words.now a.body.now).says in
    let said = c.answer-said.ensures.served in
    let size : ℕ = c.answer-said.result.size in
    let n : size + 1 ≡ 1 + size = add_comm size 1 in
    let out = c.answer-said.new.out in
    record {
      served = record {
        size = omega (arith, said.size, length-append (a.own ∷ m) (lrc_of (a.own ∷ m) ∷ []));
        room = c.put_byte-2.ensures
            ∙ ap (λ (x : ℕ). overwrite out (size + 1) (x ∷ [])) c.lrc_of-lrc.ensures
            ∙ ap (λ (k : ℕ). overwrite out k (lrc_of (take k out) ∷ [])) n
            ∙ framed-by (λ front. lrc_of front ∷ []) a.out.now m a.own size c.put_byte.new.out out c.put_byte.ensures said.size said.room;
        words-is = said.words-is;
      };
      counters-are = c.answer-said.ensures.counters-are;
    }
