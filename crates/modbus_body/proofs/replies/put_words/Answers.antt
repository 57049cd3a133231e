-- The words so far are written. Assumes nothing.
use mathlib.Core.Path.{refl}
use native.Mathlib.Omega.{arith}
use Rattle.text_rooms.proofs.Each.{upto-none, upto-more}
use Rattle.modbus_body.specs.Bytes.{word_bytes}
use Rattle.modbus_body.proofs.replies.put_words.Goals as goal

pub loop-i-init : goal.loop-i-init
loop-i-init c = let a = c.args in
    let none = upto-none word_bytes 2 a.ws.now a.out.now a.at in
    (none.0, omega arith, none.2, none.3)

pub loop-i-preserved : goal.loop-i-preserved
loop-i-preserved c = let a = c.args in
    let more = upto-more word_bytes 2 a.ws.now a.out.now a.at (λ x. refl) c.requires c.loop-i-test.true c.loop-i.invariant c.put_word.ensures in
    (more.0, omega arith, more.2, more.3)
