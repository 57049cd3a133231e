-- The invariant: what was found and what is left make the answer for the whole. Assumes nothing.
use Prim.Native.Nat.{ℕ}
use mathlib.Core.Path.{◌∙◌}
use Rattle.table_cells.specs.Touched as tc
use Rattle.table_cells.proofs.Shared.{lowest-turn, lowest-end}
use Rattle.table_cells.proofs.meet.shared_by_any.Goals as goal

pub loop-a-preserved : goal.loop-a-preserved
loop-a-preserved c =
    let a = c.args in
    (lowest-turn (λ (x : ℕ). tc.lowest_of (tc.shared a.n x a.m) a.others.now) _ _ c.loop-a.found _ c.loop-a-test.true c.shared_by_one.ensures c.lower-found.ensures ∙ c.loop-a.invariant)

pub returns : goal.returns
returns c = lowest-end _ _ _ c.loop-a.found c.loop-a-test.false c.loop-a.invariant
