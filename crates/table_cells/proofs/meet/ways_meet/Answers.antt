-- The tests of the definition. Assumes nothing.
use mathlib.Core.Path.{ap₂, ◌∙◌}
use Rattle.rules.specs.Choice.{both, either}
use Rattle.table_cells.specs.Touched as tc
use Rattle.table_cells.proofs.meet.ways_meet.Goals as goal

pub returns : goal.returns
unfolding tc.ways_meet
returns c =
    c.or-2.ensures
    ∙ ap₂ either
    (c.and.ensures ∙ ap₂ both c.has_way-one_writes.ensures (c.or.ensures ∙ ap₂ either c.has_way-other_reads.ensures c.has_way-other_writes.ensures))
    (c.and-2.ensures ∙ ap₂ both c.has_way-one_reads.ensures c.has_way-other_writes.ensures)
