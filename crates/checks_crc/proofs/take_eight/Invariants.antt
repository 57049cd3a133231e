-- The loop's invariant: what is left of the 64 shifts makes of the number what all make of it at the start. Assumes nothing.
use mathlib.Core.Path.{◌≡◌}
use Prim.Native.Nat.{◌-◌, ◌*◌, ◌≤◌}
use lib.Bits.{bit_xor}
use Rattle.checks_crc.specs.Crc.{shifts}
use Rattle.checks_crc.specs.Runs.{low_first}
use Rattle.checks_crc.proofs.take_eight.Given as goal

abbrev pub invariant-loop-k : goal.invariant-loop-k
invariant-loop-k l = shifts (8 * (8 - l._k)) l.x ≡ shifts 64 (bit_xor l.r (low_first 8 l.s l.i))
