-- The invariant: the words so far are written. Assumes nothing.
use borrow.Author.Rules.{rules}
use mathlib.Core.Path.{refl}
use Rattle.text_rooms.proofs.Each.{upto-none, upto-more}
use Rattle.text_hex_words.specs.Words.{low_first}
use Rattle.mewtocol_frame.proofs.Sealed.{low_first-length}
use Rattle.mewtocol_frame.proofs.text.put_words_text.Goals as goal

pub loop-i-init : goal.loop-i-init
loop-i-init c =
    let a = c.args in
    let none = upto-none low_first 4 a.ws.now a.room.now a.at in
    (none.0, refl, refl, none.3)

pub loop-i-preserved : goal.loop-i-preserved
loop-i-preserved c =
    let a = c.args in
    let more = upto-more low_first 4 a.ws.now a.room.now a.at low_first-length (search rules) c.loop-i-test.true c.loop-i.invariant c.put_low_first.ensures in
    (more.0, refl, more.2, more.3)
