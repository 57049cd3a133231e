-- No run has no cell. Assumes nothing.
use Rattle.rules.specs.Choice.{some}
use Rattle.rules.proofs.Choose.{both_false}
use Rattle.table_registers.specs.Table.{grants}
use Rattle.table_cells.specs.Touched.{in_runs, cells_in}
use Rattle.table_cells.proofs.touch.nothing.Goals as goal

pub returns : goal.returns
unfolding cells_in in_runs some
returns c = λ way k. both_false (grants way 0)
