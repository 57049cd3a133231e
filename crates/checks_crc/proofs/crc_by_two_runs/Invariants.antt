-- The loops' invariants: one register is fed with the bytes before the last 128, the other with those, and both go in whole turns of eight.
-- Assumes nothing.
use mathlib.Core.Path.{◌≡◌}
use Prim.Native.Nat.{◌+◌, ◌-◌, ◌%◌, ◌≤◌}
use Rattle.checks_crc.specs.Runs.{Fed}
use Rattle.checks_crc.proofs.crc_by_two_runs.Given as goal

abbrev pub invariant-loop-k : goal.invariant-loop-k
invariant-loop-k l = Fed l.frame 0 0xFFFF l.k l.p

abbrev pub invariant-loop-i : goal.invariant-loop-i
invariant-loop-i l = (l.i ≤ l.m) × (l.i % 8 ≡ l.m % 8) × (l.j + l.m % 8 ≡ l.m + l.i) × Fed l.frame 0 0xFFFF l.i l.p × Fed l.frame l.m 0 l.j l.q

abbrev pub decreases-loop-i : goal.decreases-loop-i
decreases-loop-i l = l.m - l.i

abbrev pub invariant-loop-j : goal.invariant-loop-j
invariant-loop-j l = (l.j ≤ l.n) × (l.j % 8 ≡ l.n % 8) × Fed l.frame l.m 0 l.j l.q

abbrev pub decreases-loop-j : goal.decreases-loop-j
decreases-loop-j l = l.n - l.j
