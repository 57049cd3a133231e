-- The invariant: the runs that are left are those that there were. Assumes nothing.
use Rattle.std.proofs.Common.{◌≡◌, length}
use Rattle.catalogue_files.specs.Walks.{runs_in}
use Rattle.catalogue_files.proofs.runs.RunsIterator.next.Given as goal

abbrev pub invariant-loop-here : goal.invariant-loop-here
invariant-loop-here l = runs_in l.self.0.now ≡ runs_in l.initial.self.0.now

abbrev pub decreases-loop-here : goal.decreases-loop-here
decreases-loop-here l = length l.self.0.now
