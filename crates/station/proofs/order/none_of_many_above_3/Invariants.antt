-- The invariant of both loops: lanes and what is left make one answer for the whole. Assumes nothing.
use mathlib.Core.Path.{◌≡◌}
use Prim.Native.Nat.{◌+◌, ◌*◌, ◌≤◌}
use lib.ListN.{length, drop}
use Rattle.rules.specs.Choice.{both, all_between}
use Rattle.station.proofs.order.none_of_many_above_3.Given as goal

abbrev pub invariant-loop-k : goal.invariant-loop-k
invariant-loop-k l = (256 * l.i + 256 ≤ length l.s) × (length l.lanes ≡ 32) × (both (all_between 0 3 l.lanes) (all_between 0 3 (drop (256 * l.i + 32 * l.k) l.s)) ≡ all_between 0 3 l.s)

abbrev pub invariant-loop-i : goal.invariant-loop-i
invariant-loop-i l = (length l.lanes ≡ 32) × (both (all_between 0 3 l.lanes) (all_between 0 3 (drop (256 * l.i) l.s)) ≡ all_between 0 3 l.s)
