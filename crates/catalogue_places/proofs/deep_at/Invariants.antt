-- The invariant: the place so far and what is still to come make the whole, and there is room for the levels that are left. Assumes nothing.
use mathlib.Core.Path.{◌≡◌}
use Prim.Native.Nat.{◌+◌, ◌-◌, ◌*◌, ◌≤◌}
use lib.ListN.{length}
use Rattle.catalogue_places.specs.Places.{deep_at}
use Rattle.catalogue_places.proofs.deep_at.Given as goal

abbrev pub invariant-loop-done : goal.invariant-loop-done
invariant-loop-done l = (l.place + deep_at (l.levels - l.done) l.left ≡ deep_at l.levels l.s) × (length l.left ≤ 65535) × (l.place + (l.levels - l.done) * 131073 ≤ 524292)
