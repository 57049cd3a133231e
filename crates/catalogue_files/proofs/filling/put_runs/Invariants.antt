-- The invariant: what is left to put makes of the bytes what the whole makes of them. Assumes nothing.
use Rattle.std.proofs.Common.{◌≡◌}
use Rattle.catalogue_files.specs.Refusals.{painted}
use Rattle.catalogue_files.specs.Walks.{runs_in}
use Rattle.catalogue_files.proofs.filling.put_runs.Given as goal

abbrev pub invariant-loop-r : goal.invariant-loop-r
invariant-loop-r l =
    (goal.iterator-loop-r).can_next l.r-iterator
    × (goal.iterator-loop-r).is_finite l.r-iterator
    × (painted l.attributes (runs_in l.r-iterator.0.now) ≡ painted l.initial.attributes (runs_in l.s))
