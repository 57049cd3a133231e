-- The invariant: the bytes so far stand in the room. Assumes nothing.
use mathlib.Core.Path.{◌≡◌}
use lib.ListN.{length}
use Rattle.text_rooms.specs.Room.{overwrite}
use Rattle.modbus_ascii.specs.Ascii.{pair_bytes}
use Rattle.modbus_ascii.proofs.decode.Given as goal

abbrev pub invariant-loop-i : goal.invariant-loop-i
invariant-loop-i l = (length l.bytes ≡ length l.initial.bytes) × (l.bytes ≡ overwrite l.initial.bytes 0 (pair_bytes l.i l.text))
