-- Each way goes by the test that led there. Assumes nothing.
use mathlib.Core.Path.{ap, ◌∙◌}
use Rattle.rules.proofs.Choose.{via}
use Rattle.catalogue_format.specs.Shapes.{filled_exactly, is_group_value}
use Rattle.catalogue_format.proofs.Bools.{no_both, so-both}
use Rattle.catalogue_format.proofs.shape.is_group_value.Goals as goal

pub returns-then-not-is_name : goal.returns-then-not-is_name
unfolding is_group_value
returns-then-not-is_name c = no_both _ _ (via c.is_name.ensures c.if-not-is_name.true)

pub returns : goal.returns
unfolding is_group_value
returns c = so-both _ _ _ (via c.is_name.ensures c.if-not-is_name.false) (c.filled_exactly.ensures ∙ ap filled_exactly c.after.ensures)
