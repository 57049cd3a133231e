-- Each way rewrites with the test that led there. Assumes nothing.
use Rattle.rules.specs.Choice.{between}
use Rattle.rules.proofs.Choose.{tests}
use Rattle.text_slices.proofs.is_between.Goals as goal

pub returns-then-lo-x : goal.returns-then-lo-x
unfolding between
returns-then-lo-x c = search tests

pub returns-else-lo-x : goal.returns-else-lo-x
unfolding between
returns-else-lo-x c = search tests
