-- The words so far are written. Assumes nothing.
use Prim.Native.Nat.{◌+◌, ◌*◌}
use Rattle.text_rooms.proofs.Each.{Upto}
use Rattle.modbus_body.specs.Bytes.{word_bytes}
use Rattle.modbus_body.proofs.replies.put_words.Given as goal

abbrev pub invariant-loop-i : goal.invariant-loop-i
invariant-loop-i l = Upto word_bytes 2 l.ws l.initial.out l.at l.out l.i (l.at + 2 * l.i)
