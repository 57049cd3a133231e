-- The answer for a field is one of three cases, and that of items goes on where the first field has none. Assumes nothing.
use Rattle.std.proofs.Common.{◌∙◌, ◌-◌, ap, sym}
use Rattle.rules.proofs.Choose.{via}
use Rattle.catalogue_format.specs.Format.{after_of}
use Rattle.catalogue_files.specs.Walks.{deeper_field, deeper_in}
use Rattle.catalogue_files.proofs.Depths.{not-group, last-level, one-level}
use Rattle.catalogue_files.proofs.Turns.{some_here, some_later, some_none}
use Rattle.catalogue_files.proofs.depth.+is_deeper_is_field_deeper.Goals as goal

pub is_deeper-returns-then-is_field_deeper : goal.is_deeper-returns-then-is_field_deeper
unfolding deeper_in
is_deeper-returns-then-is_field_deeper t c =
    some_here (deeper_field c.args.k) _ _ _ c.in-Some.ensures.steps (via c.is_field_deeper.ensures c.if-is_field_deeper.true) ∙ c.loop-field.invariant.2

pub is_deeper-loop-field-preserved : goal.is_deeper-loop-field-preserved
unfolding deeper_in
is_deeper-loop-field-preserved t c =
    (tt, tt, some_later (deeper_field c.args.k) _ _ _ c.in-Some.ensures.steps (via c.is_field_deeper.ensures c.if-is_field_deeper.false) ∙ c.loop-field.invariant.2)

pub is_deeper-returns : goal.is_deeper-returns
unfolding deeper_in
is_deeper-returns t c = some_none (deeper_field c.args.k) _ c.in-None.ensures.steps.0 ∙ c.loop-field.invariant.2

pub is_field_deeper-returns-then-byte_at-ne-GROUP : goal.is_field_deeper-returns-then-byte_at-ne-GROUP
is_field_deeper-returns-then-byte_at-ne-GROUP t c = not-group _ _ (λ e. c.if-byte_at-ne-GROUP.true (c.byte_at.ensures ∙ e))

pub is_field_deeper-returns-then-k-eq0 : goal.is_field_deeper-returns-then-k-eq0
is_field_deeper-returns-then-k-eq0 t c = last-level _ _ (sym c.byte_at.ensures ∙ c.if-byte_at-ne-GROUP.false) c.if-k-eq0.true

pub is_field_deeper-returns : goal.is_field_deeper-returns
is_field_deeper-returns t c =
    let k = c.args.k in
    c.is_deeper.ensures
    ∙ ap (deeper_in (k - 1)) (c.after.ensures ∙ ap after_of c.value_of.ensures)
    ∙ one-level k _ (sym c.byte_at.ensures ∙ c.if-byte_at-ne-GROUP.false) c.if-k-eq0.false
