-- The loops' invariant: the register, fed with what is left, is what all make of it at the start. Assumes nothing.
use mathlib.Core.List.{List}
use Prim.Native.Nat.{ℕ, ◌-◌, ◌≤◌}
use lib.ListN.{length}
use Rattle.checks_crc.specs.Runs.{Fed}
use Rattle.checks_crc.proofs.take_all.Given as goal

-- what both loops keep: the place is in the bytes, and the register there makes of the rest what the first makes of all
abbrev Keeps : List ℕ → ℕ → ℕ → ℕ → Type 0
Keeps s r q i = (i ≤ length s) × Fed s 0 r i q

abbrev pub invariant-loop-i : goal.invariant-loop-i
invariant-loop-i l = Keeps l.s l.r l.q l.i

abbrev pub decreases-loop-i : goal.decreases-loop-i
decreases-loop-i l = length l.s - l.i

abbrev pub invariant-loop-k : goal.invariant-loop-k
invariant-loop-k l = Keeps l.s l.r l.q l.k
