-- The invariant: number j of the whole is the one that is left to find in what is left of the row and of the text. Assumes nothing.
use mathlib.Core.Path.{◌≡◌}
use Prim.Native.Nat.{◌*◌, ◌≤◌}
use lib.ListN.{drop}
use Rattle.mewtocol_commands.specs.Code.{number_in}
use Rattle.mewtocol_commands.proofs.rows.number.Given as goal

abbrev pub invariant-loop-f : goal.invariant-loop-f
invariant-loop-f l = (l.at ≤ 5 * l.f-index) × (number_in l.j l.all l.text ≡ number_in l.left (drop l.f-index l.all) (drop l.at l.text))
