-- The byte is the one that holds it. Assumes nothing.
use Rattle.table_registers.specs.Bits.{bit_at}
use Rattle.table_bit_writes.proofs.bits.bit_at.Goals as goal

pub returns : goal.returns
unfolding bit_at
returns c = rw c.byte_at-b.ensures
