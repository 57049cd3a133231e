-- The invariant: the answer for the whole is the answer for what is left. Assumes nothing.
use Rattle.std.proofs.Common.{◌≡◌}
use Rattle.catalogue_files.specs.Walks.{named_twice}
use Rattle.catalogue_files.proofs.names.is_twice.Given as goal

abbrev pub invariant-loop-v : goal.invariant-loop-v
invariant-loop-v l =
    (goal.iterator-loop-v).can_next l.later
    × (goal.iterator-loop-v).is_finite l.later
    × (named_twice l.later.0.now ≡ named_twice l.s)
