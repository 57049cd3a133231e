-- A pair at the next run, later, or nowhere. Assumes nothing.
use Rattle.std.proofs.Common.{◌∙◌}
use Rattle.rules.proofs.Choose.{via}
use Rattle.catalogue_files.specs.Refusals.{meets}
use Rattle.catalogue_files.proofs.Turns.{pair_here, pair_later, pair_none}
use Rattle.catalogue_files.proofs.runs.meets_later.Goals as goal

pub returns-then-meets_one : goal.returns-then-meets_one
returns-then-meets_one c = pair_here meets _ _ _ c.in-Some.ensures.steps (via c.meets_one.ensures c.if-meets_one.true) ∙ c.loop-r.invariant.2

pub loop-r-preserved : goal.loop-r-preserved
loop-r-preserved c = (tt, tt, pair_later meets _ _ _ c.in-Some.ensures.steps (via c.meets_one.ensures c.if-meets_one.false) ∙ c.loop-r.invariant.2)

pub returns : goal.returns
returns c = pair_none meets _ c.in_default.ensures.steps.0 ∙ c.loop-r.invariant.2
