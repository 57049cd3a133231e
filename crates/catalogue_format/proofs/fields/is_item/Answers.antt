-- Each way goes by the test that led there. Assumes nothing.
use Rattle.rules.proofs.Choose.{via}
use Rattle.catalogue_format.specs.Shapes.{is_item}
use Rattle.catalogue_format.proofs.Bools.{so-either, or_else}
use Rattle.catalogue_format.proofs.fields.is_item.Goals as goal

pub returns-then-is_run : goal.returns-then-is_run
unfolding is_item
returns-then-is_run c = so-either _ _ (via c.is_run.ensures c.if-is_run.true)

pub returns : goal.returns
unfolding is_item
returns c = or_else _ _ _ (via c.is_run.ensures c.if-is_run.false) c.is_field.ensures
