-- The definition's own test. Assumes nothing.
use borrow.Author.Rules.{rules}
use Rattle.table_registers.specs.Table.{grants}
use Rattle.table_cells.proofs.meet.has_way.Goals as goal

pub returns : goal.returns
unfolding grants
returns c = search rules
