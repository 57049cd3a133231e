-- The invariant: so far, and what is left, are the whole. Assumes nothing.
use mathlib.Core.Path.{◌≡◌}
use Prim.Native.Nat.{◌+◌, ◌*◌, ◌≤◌}
use lib.ListN.{drop}
use Rattle.mewtocol_commands.specs.Rows.{widths}
use Rattle.mewtocol_commands.proofs.rows.wide.Given as goal

abbrev pub invariant-loop-f : goal.invariant-loop-f
invariant-loop-f l = (l.at ≤ 5 * l.f-index) × (l.at + widths (drop l.f-index l.all) ≡ widths l.all)
