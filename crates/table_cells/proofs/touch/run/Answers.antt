-- One run has its cells. Assumes nothing.
use mathlib.Core.Path.{ap}
use Rattle.rules.specs.Choice.{some, both}
use Rattle.rules.proofs.Choose.{either-false}
use Rattle.table_registers.specs.Table.{grants}
use Rattle.table_profiles.specs.Runs.{in_run}
use Rattle.table_cells.specs.Touched.{in_runs, cells_in}
use Rattle.table_cells.proofs.touch.run.Goals as goal

pub returns : goal.returns
unfolding cells_in in_runs some
returns c = λ way k. ap (both (grants way c.args.ways)) (either-false (in_run c.args.first c.args.each k))
