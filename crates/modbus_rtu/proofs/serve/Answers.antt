-- Station, body and CRC are one message, and where the body is the request's again, so is the CRC. Assumes nothing.
use mathlib.Core.Path.{◌≡◌, sym, ap, ◌∙◌}
use mathlib.Core.List.{List, ◌∷◌}
use Prim.Native.Nat.{ℕ}
use native.Mathlib.Omega.{arith}
use lib.ListN.{get_or, length-append}
use Rattle.checks_crc.specs.Crc.{crc_of, crc_bytes}
use Rattle.table_registers.specs.Profile.{verdict}
use Rattle.modbus_body.specs.Body.{reply_to, repeats_all}
use Rattle.modbus_line.specs.Framing.{answered}
use Rattle.modbus_line.proofs.Bodies.{line_small, repeats-line}
use Rattle.modbus_line.proofs.Framing.{seen, framed-by}
use Rattle.modbus_rtu.proofs.serve.Goals as goal

pub overflow_add-said : goal.overflow_add-said
overflow_add-said c = let a = c.args in omega (arith, c.answer-said.ensures.served.size, line_small a.counters (verdict a.profile a.attributes.now) a.words.now a.body.now)

pub put_crc-requires : goal.put_crc-requires
put_crc-requires c =
    let start = c in
    let a = start.args in
    let said = c.answer-said in
    let judge = verdict a.profile a.attributes.now in
    let m : List ℕ = reply_to a.body.now (answered a.counters judge a.words.now a.body.now).says in
    let stands = seen crc_bytes a.reply.now m a.own said.result.size _ _ c.put_byte.ensures said.ensures.served.size said.ensures.served.room in (
      omega (arith, said.ensures.served.size, line_small a.counters judge a.words.now a.body.now, start.requires.0.big, said.auto.out, c.put_byte.auto.out),
      λ h.
          let again : m ≡ a.body.now = repeats-line a.counters judge a.words.now a.body.now (ap (λ (l : List ℕ). repeats_all (get_or l 1 0)) (sym stands) ∙ h) in
          start.requires.1 ∙ ap (λ (l : List ℕ). crc_of (a.own ∷ l)) (sym again) ∙ ap crc_of (sym stands),
    )

pub returns : goal.returns
returns c = let a = c.args in
    let m : List ℕ = reply_to a.body.now (answered a.counters (verdict a.profile a.attributes.now) a.words.now a.body.now).says in
    record {
      served = record {
        size = omega (arith, c.put_crc.ensures.0, c.answer-said.ensures.served.size, length-append (a.own ∷ m) (crc_bytes (a.own ∷ m)));
        room = c.put_crc.ensures.1 ∙ framed-by crc_bytes a.reply.now m a.own c.answer-said.result.size _ _ c.put_byte.ensures c.answer-said.ensures.served.size c.answer-said.ensures.served.room;
        words-is = c.answer-said.ensures.served.words-is;
      };
      counters-are = c.answer-said.ensures.counters-are;
    }
