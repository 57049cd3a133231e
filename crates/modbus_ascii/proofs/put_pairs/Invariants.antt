-- The pairs so far are written. Assumes nothing.
use Prim.Native.Nat.{◌+◌, ◌*◌}
use Rattle.text_hex.specs.Hex.{hex_byte}
use Rattle.text_rooms.proofs.Each.{Upto}
use Rattle.modbus_ascii.proofs.put_pairs.Given as goal

abbrev pub invariant-loop-i : goal.invariant-loop-i
invariant-loop-i l = Upto hex_byte 2 l.bytes l.initial.out l.at l.out l.i (l.at + 2 * l.i)
