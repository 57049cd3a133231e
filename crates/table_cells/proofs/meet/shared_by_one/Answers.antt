-- The invariant: what was found and what is left make the answer for the whole. Assumes nothing.
use mathlib.Core.Path.{◌∙◌}
use Rattle.table_cells.proofs.Shared.{lowest-turn, lowest-end}
use Rattle.table_cells.proofs.meet.shared_by_one.Goals as goal

pub loop-b-preserved : goal.loop-b-preserved
loop-b-preserved c = (lowest-turn _ _ _ c.loop-b.found _ c.loop-b-test.true c.shared.ensures c.lower-found.ensures ∙ c.loop-b.invariant)

pub returns : goal.returns
returns c = lowest-end _ _ _ c.loop-b.found c.loop-b-test.false c.loop-b.invariant
