-- Each way goes by the tag. Assumes nothing.
use mathlib.Core.Path.{sym, ◌∙◌}
use borrow.Author.Tests.{eq-eqb, ne_eqb}
use Rattle.catalogue_format.specs.Shapes.{into}
use Rattle.catalogue_format.proofs.Bools.{so-pick, not-pick}
use Rattle.catalogue_format.proofs.shape.step.Goals as goal

pub returns-then-byte_at-eq-GROUP : goal.returns-then-byte_at-eq-GROUP
unfolding into
returns-then-byte_at-eq-GROUP c = so-pick _ _ _ _ (eq-eqb _ _ (sym c.byte_at.ensures ∙ c.if-byte_at-eq-GROUP.true)) c.rest.ensures

pub returns-else-byte_at-eq-GROUP : goal.returns-else-byte_at-eq-GROUP
unfolding into
returns-else-byte_at-eq-GROUP c = not-pick _ _ _ _ (ne_eqb _ _ (λ e. c.if-byte_at-eq-GROUP.false (c.byte_at.ensures ∙ e))) c.after.ensures
