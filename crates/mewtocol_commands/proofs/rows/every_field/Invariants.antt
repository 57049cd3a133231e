-- The invariant: the answer for the whole row is the answer for what is left of it and of the text. Assumes nothing.
use mathlib.Core.Path.{◌≡◌}
use Prim.Native.Nat.{◌*◌, ◌≤◌}
use lib.ListN.{drop}
use Rattle.mewtocol_commands.specs.Rows.{every}
use Rattle.mewtocol_commands.proofs.rows.every_field.Given as goal

abbrev pub invariant-loop-f : goal.invariant-loop-f
invariant-loop-f l = (l.at ≤ 5 * l.f-index) × (every l.step l.all l.text ≡ every l.step (drop l.f-index l.all) (drop l.at l.text))
