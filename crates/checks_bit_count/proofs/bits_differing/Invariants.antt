-- The loop's invariant: n and what the bytes from i on differ in make the whole, and n is at most eight for each byte passed.
-- Assumes nothing.
use mathlib.Core.Path.{◌≡◌}
use Prim.Native.Nat.{◌+◌, ◌-◌, ◌*◌, ◌≤◌}
use lib.ListN.{length}
use Rattle.checks_bit_count.proofs.Tally.{rest}
use Rattle.checks_bit_count.proofs.bits_differing.Given as goal

abbrev pub invariant-loop-i : goal.invariant-loop-i
invariant-loop-i l = (l.n ≤ 8 * l.i) × (l.n + rest l.a l.b l.i ≡ rest l.a l.b 0)
