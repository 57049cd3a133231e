-- The invariant: lanes and what is left make one answer for both. Assumes nothing.
use mathlib.Core.Path.{◌≡◌}
use Prim.Native.Nat.{◌+◌}
use lib.ListN.{length, drop}
use Rattle.rules.specs.Choice.{both, all_between}
use Rattle.station.proofs.order.or_into.Given as goal

abbrev pub invariant-loop-j : goal.invariant-loop-j
invariant-loop-j l = (length l.lanes ≡ 32) × (both (all_between 0 3 l.lanes) (all_between 0 3 (drop (l.at + l.j) l.s)) ≡ both (all_between 0 3 l.initial.lanes) (all_between 0 3 (drop l.at l.s)))
