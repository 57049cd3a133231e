-- The invariant: the answer for the whole is the answer for the times that are left. Assumes nothing.
use mathlib.Core.Path.{◌≡◌}
use Prim.Native.Nat.{◌+◌, ◌-◌, ◌*◌, ◌≤◌}
use lib.ListN.{drop}
use Rattle.mewtocol_commands.specs.Rows.{times}
use Rattle.mewtocol_commands.specs.Code.{row_of}
use Rattle.mewtocol_asking.specs.Asking.{fit}
use Rattle.mewtocol_asking.specs.Code.{numbers_for}
use Rattle.mewtocol_asking.proofs.fits_times.Given as goal

abbrev pub invariant-loop-i : goal.invariant-loop-i
invariant-loop-i l = (l.k ≤ l.j + 4 * l._i) × (fit (times l.n (row_of l.row)) (drop l.j (numbers_for l.asking)) ≡ fit (times (l.n - l._i) (row_of l.row)) (drop l.k (numbers_for l.asking)))
