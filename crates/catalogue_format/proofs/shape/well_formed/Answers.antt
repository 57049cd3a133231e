-- Each way goes by the test that led there. Assumes nothing.
use Rattle.rules.proofs.Choose.{via}
use Rattle.catalogue_format.specs.Shapes.{well_formed}
use Rattle.catalogue_format.proofs.Bools.{no_both, so-both}
use Rattle.catalogue_format.proofs.shape.well_formed.Goals as goal

pub returns-then-not-is_whole : goal.returns-then-not-is_whole
unfolding well_formed
returns-then-not-is_whole c = no_both _ _ (via c.is_whole.ensures c.if-not-is_whole.true)

pub returns : goal.returns
unfolding well_formed
returns c = so-both _ _ _ (via c.is_whole.ensures c.if-not-is_whole.false) c.all_groups.ensures
