-- The invariant: the answer for the whole is the answer for the times that are left. Assumes nothing.
use mathlib.Core.Path.{◌≡◌}
use Prim.Native.Nat.{◌-◌, ◌*◌, ◌≤◌}
use lib.ListN.{drop}
use Rattle.mewtocol_commands.specs.Rows.{times, every}
use Rattle.mewtocol_commands.specs.Code.{row_of}
use Rattle.mewtocol_steps.proofs.layouts.every_time.Given as goal

abbrev pub invariant-loop-i : goal.invariant-loop-i
invariant-loop-i l = (l.at ≤ 20 * l._i) × (every l.step (times l.k (row_of l.row)) l.text ≡ every l.step (times (l.k - l._i) (row_of l.row)) (drop l.at l.text))
