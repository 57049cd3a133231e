-- The invariant: the values so far stand in their places; each is 0 or 1. Assumes nothing.
use mathlib.Core.Path.{◌≡◌}
use Prim.Native.Nat.{◌-◌, ◌*◌, ◌≤◌}
use lib.ListN.{length}
use Rattle.text_rooms.specs.Room.{overwrite}
use Rattle.mewtocol_commands.specs.Rows.{setting, widths, repeated}
use Rattle.mewtocol_commands.specs.Code.{number_in}
use Rattle.mewtocol_requests.proofs.texts.take_values.Given as goal

abbrev pub invariant-loop-i : goal.invariant-loop-i
invariant-loop-i l = (l.at ≡ l.w * l.i) × (length l.values ≡ length l.initial.values) × (l.values ≡ overwrite l.initial.values 0 (repeated l.i (widths setting) (number_in 1 setting) l.text))
