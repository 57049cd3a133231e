-- Two to the bit, mixed in or taken out. Assumes nothing.
use native.Mathlib.Nat.{one-mul}
use native.Mathlib.Omega.{arith}
use lib.Dec.{lit<}
use lib.Pow.{shl_exact}
use Rattle.table_registers.specs.Bits.{with_bit}
use Rattle.table_bit_writes.proofs.bits.with_bit.Goals as goal

pub returns-then-on : goal.returns-then-on
unfolding with_bit
returns-then-on c = rw (c.if-on.true, shl_exact {a = 1} 1 c.args.bit 16 (lit< tt) (omega arith), one-mul)

pub returns-else-on : goal.returns-else-on
unfolding with_bit
returns-else-on c = rw (c.if-on.false, shl_exact {a = 1} 1 c.args.bit 16 (lit< tt) (omega arith), one-mul)
