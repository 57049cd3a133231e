-- The invariant: the contacts so far stand in their places. Assumes nothing.
use mathlib.Core.Path.{◌≡◌}
use Prim.Native.Nat.{◌-◌, ◌*◌, ◌≤◌}
use lib.ListN.{length}
use Rattle.text_rooms.specs.Room.{overwrite}
use Rattle.mewtocol_commands.specs.Rows.{widths, repeated}
use Rattle.mewtocol_commands.specs.Code.{row_of, number_in}
use Rattle.mewtocol_requests.proofs.texts.take_contacts.Given as goal

abbrev pub invariant-loop-i : goal.invariant-loop-i
invariant-loop-i l = (l.at ≡ l.w * l.i) × (length l.contacts ≡ length l.initial.contacts) × (l.contacts ≡ overwrite l.initial.contacts 0 (repeated l.i (widths (row_of l.row)) (number_in 0 (row_of l.row)) l.text))
