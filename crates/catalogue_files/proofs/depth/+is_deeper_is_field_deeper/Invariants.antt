-- The measure: twice the levels that are left, and one more for the reader of items. The invariant: the answer for the whole is the
-- answer for what is left. Assumes nothing.
use Rattle.std.proofs.Common.{◌≡◌, ◌+◌}
use Rattle.catalogue_files.specs.Walks.{deeper_in}
use Rattle.catalogue_files.proofs.depth.+is_deeper_is_field_deeper.Given as goal

abbrev pub decreases-is_deeper : goal.decreases-is_deeper
decreases-is_deeper l = l.k + l.k + 1

abbrev pub decreases-is_field_deeper : goal.decreases-is_field_deeper
decreases-is_field_deeper l = l.k + l.k

abbrev pub invariant-is_deeper-loop-field : goal.invariant-is_deeper-loop-field
invariant-is_deeper-loop-field l =
    (goal.iterator-is_deeper-loop-field).can_next l.field-iterator
    × (goal.iterator-is_deeper-loop-field).is_finite l.field-iterator
    × (deeper_in l.k l.field-iterator.0.now ≡ deeper_in l.k l.s)
