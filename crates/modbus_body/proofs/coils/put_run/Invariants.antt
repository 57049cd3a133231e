-- The invariant: the bytes so far are written. Assumes nothing.
use mathlib.Core.Path.{◌≡◌}
use lib.ListN.{length}
use Rattle.text_rooms.specs.Room.{overwrite}
use Rattle.modbus_body.specs.Bytes.{packed}
use Rattle.modbus_body.proofs.Packed.{cells}
use Rattle.modbus_body.proofs.coils.put_run.Given as goal

abbrev pub invariant-loop-j : goal.invariant-loop-j
invariant-loop-j l = (length l.out ≡ length l.initial.out) × (l.out ≡ overwrite l.initial.out l.at (packed l.j (cells l.words l.cell l.count)))
