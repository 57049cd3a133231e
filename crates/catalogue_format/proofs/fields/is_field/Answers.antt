-- Each way goes by the test that led there. Assumes nothing.
use mathlib.Core.Path.{sym, ap, ◌∙◌}
use Prim.Native.Nat.{ℕ, ◌+◌}
use lib.Dec.{leb}
use lib.ListN.{length}
use borrow.Author.Tests.{eq-eqb, ne_eqb}
use Rattle.catalogue_format.specs.Format.{is_field}
use Rattle.catalogue_format.proofs.Bools.{no_both, so-both}
use Rattle.catalogue_format.proofs.fields.is_field.Goals as goal

pub returns-then-byte_at-tag : goal.returns-then-byte_at-tag
unfolding is_field
returns-then-byte_at-tag c = no_both _ _ (ne_eqb _ _ (λ e. c.if-byte_at-tag.true (c.byte_at.ensures ∙ e)))

pub returns : goal.returns
unfolding is_field
returns c =
    so-both _ _ _ (eq-eqb _ _ (sym c.byte_at.ensures ∙ c.if-byte_at-tag.false))
    (ap (λ (n : ℕ). leb (3 + n) (length c.args.s.now)) c.size_of.ensures.0)
