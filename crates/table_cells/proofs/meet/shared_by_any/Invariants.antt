-- The invariant: what was found and what is left make the answer for the whole. Assumes nothing.
use Prim.Native.Nat.{ℕ}
use mathlib.Core.Path.{◌≡◌}
use lib.ListN.{drop}
use Rattle.table_cells.specs.Touched as tc
use Rattle.table_cells.proofs.meet.shared_by_any.Given as goal

abbrev pub invariant-loop-a : goal.invariant-loop-a
invariant-loop-a l = (tc.lowest_from (λ (a : ℕ). tc.lowest_of (tc.shared l.n a l.m) l.others) l.found (drop l.a-index l.ones) ≡ tc.lowest_of (λ (a : ℕ). tc.lowest_of (tc.shared l.n a l.m) l.others) l.ones)
