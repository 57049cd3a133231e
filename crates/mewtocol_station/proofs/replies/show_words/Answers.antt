-- A heading and words, closed. Assumes nothing.
use mathlib.Core.Path.{sym, ap}
use Prim.Native.Nat.{ℕ, ◌+◌}
use Rattle.mewtocol_frame.specs.Text.{words_text}
use Rattle.mewtocol_frame.proofs.Sealed.{words_text-length}
use Rattle.mewtocol_station.proofs.Texts.{good-put}
use Rattle.mewtocol_station.proofs.replies.show_words.Goals as goal

pub returns : goal.returns
returns c = let a = c.args in
    good-put a.room.now a.sender.header a.sender.own a.a a.b (words_text a.ws.now) c.put_heading.ensures c.put_words_text.ensures (ap (λ (k : ℕ). 6 + k) (sym (words_text-length a.ws.now))) c.put_xor.ensures
