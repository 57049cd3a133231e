-- The invariant: what was found and what is left make the answer for the whole. Assumes nothing.
use mathlib.Core.Path.{◌≡◌}
use lib.ListN.{drop}
use Rattle.table_cells.specs.Touched as tc
use Rattle.table_cells.proofs.meet.shared_by_one.Given as goal

abbrev pub invariant-loop-b : goal.invariant-loop-b
invariant-loop-b l = (tc.lowest_from (tc.shared l.n l.a l.m) l.found (drop l.b-index l.others) ≡ tc.lowest_of (tc.shared l.n l.a l.m) l.others)
