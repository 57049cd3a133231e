-- The invariant: the answer for the whole is the answer for what is left. Assumes nothing.
use Rattle.std.proofs.Common.{◌≡◌}
use Rattle.catalogue_files.specs.Refusals.{some_pair, meets}
use Rattle.catalogue_files.specs.Walks.{runs_in}
use Rattle.catalogue_files.proofs.runs.meets_later.Given as goal

abbrev pub invariant-loop-r : goal.invariant-loop-r
invariant-loop-r l =
    (goal.iterator-loop-r).can_next l.later
    × (goal.iterator-loop-r).is_finite l.later
    × (some_pair meets (runs_in l.later.0.now) ≡ some_pair meets (runs_in l.s))
