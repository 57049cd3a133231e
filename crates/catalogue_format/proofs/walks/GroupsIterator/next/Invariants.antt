-- The invariant: the groups that are left are those that there were. Assumes nothing.
use Rattle.std.proofs.Common.{◌≡◌, length}
use Rattle.catalogue_format.specs.Shapes.{groups_in}
use Rattle.catalogue_format.proofs.walks.GroupsIterator.next.Given as goal

abbrev pub invariant-loop-here : goal.invariant-loop-here
invariant-loop-here l = groups_in l.self.0.now ≡ groups_in l.initial.self.0.now

abbrev pub decreases-loop-here : goal.decreases-loop-here
decreases-loop-here l = length l.self.0.now
