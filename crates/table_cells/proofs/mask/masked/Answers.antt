-- The definition's own bits. Assumes nothing.
use borrow.Author.Rules.{rules}
use Rattle.table_registers.specs.Bits.{masked}
use Rattle.table_cells.proofs.mask.masked.Goals as goal

pub returns : goal.returns
unfolding masked
returns c = search rules
