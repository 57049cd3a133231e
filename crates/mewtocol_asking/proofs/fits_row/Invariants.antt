-- The invariant: the answer for the whole row is the answer for what is left of it and of the numbers. Assumes nothing.
use mathlib.Core.Path.{◌≡◌}
use Prim.Native.Nat.{◌+◌, ◌≤◌}
use lib.ListN.{drop}
use Rattle.mewtocol_commands.specs.Code.{row_of}
use Rattle.mewtocol_asking.specs.Asking.{fit}
use Rattle.mewtocol_asking.specs.Code.{numbers_for}
use Rattle.mewtocol_asking.proofs.fits_row.Given as goal

abbrev pub invariant-loop-i : goal.invariant-loop-i
invariant-loop-i l = (l.k ≤ l.j + l.i) × (fit (row_of l.row) (drop l.j (numbers_for l.asking)) ≡ fit (drop l.i (row_of l.row)) (drop l.k (numbers_for l.asking)))
