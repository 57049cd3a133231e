-- The reply's bytes stand where their text is to stand, then where the frame's stood, and their text over them. Assumes nothing.
use mathlib.Core.Path.{sym, ap, ◌∙◌}
use mathlib.Core.List.{List, [], ◌∷◌}
use Prim.Native.Nat.{ℕ}
use native.Mathlib.Omega.{arith}
use lib.ListN.{length, length-append}
use Rattle.text_rooms.specs.Room.{overwrite}
use Rattle.checks_lrc.specs.Lrc.{lrc_of}
use Rattle.table_registers.specs.Profile.{verdict}
use Rattle.modbus_body.specs.Body.{reply_to}
use Rattle.modbus_line.specs.Framing.{answered}
use Rattle.modbus_line.proofs.Bodies.{line_small}
use Rattle.modbus_ascii.specs.Ascii.{body_in, with_lrc, text_frame}
use Rattle.modbus_ascii.proofs.Pairs.{seen, overwrite-over, text-longer, for-body}
use Rattle.modbus_ascii.proofs.serve_text.Goals as goal

pub put_part-requires : goal.put_part-requires
put_part-requires c =
    let a = c.args in
    let body = c.body_in-body.result.now in
    let m : List ℕ = reply_to body (answered a.counters (verdict a.profile a.attributes.now) a.words.now body).says in
    let said = c.answer_bytes-said.ensures.served in
    let e = seen _ (with_lrc a.own m) said.size said.room c.part_of-2.ensures in
    omega (arith, ap length e, length-append (a.own ∷ m) (lrc_of (a.own ∷ m) ∷ []), line_small a.counters (verdict a.profile a.attributes.now) a.words.now body, c.requires.3)

pub encode-requires : goal.encode-requires
encode-requires c =
    let a = c.args in
    let body = c.body_in-body.result.now in
    let m : List ℕ = reply_to body (answered a.counters (verdict a.profile a.attributes.now) a.words.now body).says in
    let said = c.answer_bytes-said.ensures.served in
    let e = seen _ (with_lrc a.own m) said.size said.room c.part_of-2.ensures in
    let kept = seen _ c.part_of-2.result.now (said.size ∙ ap length (sym e)) c.put_part.ensures c.part_of-3.ensures ∙ e in
    omega (arith, ap length kept, length-append (a.own ∷ m) (lrc_of (a.own ∷ m) ∷ []), line_small a.counters (verdict a.profile a.attributes.now) a.words.now body, c.answer_bytes-said.auto.out, c.requires.0.big)

pub returns : goal.returns
returns c =
    let a = c.args in
    let body = c.body_in-body.result.now in
    let m : List ℕ = reply_to body (answered a.counters (verdict a.profile a.attributes.now) a.words.now body).says in
    let w : List ℕ = with_lrc a.own m in
    let said = c.answer_bytes-said.ensures.served in
    let e = seen _ w said.size said.room c.part_of-2.ensures in
    let kept = seen _ c.part_of-2.result.now (said.size ∙ ap length (sym e)) c.put_part.ensures c.part_of-3.ensures ∙ e in
    for-body (c.body_in-body.ensures ∙ ap body_in c.part_of.ensures) (record {
      served = record {
        size = c.encode.ensures.size ∙ ap (λ (l : List ℕ). length (text_frame l)) kept;
        room = c.encode.ensures.room
            ∙ ap (λ (l : List ℕ). overwrite c.answer_bytes-said.new.out 0 (text_frame l)) kept
            ∙ ap (λ (r : List ℕ). overwrite r 0 (text_frame w)) said.room
            ∙ overwrite-over a.reply.now w (text_frame w) (text-longer w);
        words-is = said.words-is;
      };
      counters-are = c.answer_bytes-said.ensures.counters-are;
    })
