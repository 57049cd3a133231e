-- The invariant: the words so far are written. Assumes nothing.
use Prim.Native.Nat.{◌+◌, ◌*◌}
use Rattle.text_rooms.proofs.Each.{Upto}
use Rattle.text_hex_words.specs.Words.{low_first}
use Rattle.mewtocol_frame.proofs.text.put_words_text.Given as goal

abbrev pub invariant-loop-i : goal.invariant-loop-i
invariant-loop-i l = Upto low_first 4 l.ws l.initial.room l.at l.room l.i (l.at + 4 * l.i)
