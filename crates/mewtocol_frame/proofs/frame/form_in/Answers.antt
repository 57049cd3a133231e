-- The first character, and the form that it says. Assumes nothing.
use borrow.Author.Tests.{eq-eqb, ne_eqb}
use mathlib.Core.Path.{sym, ◌∙◌}
use Rattle.rules.proofs.Choose.{via, pick_yes, pick_no}
use Rattle.mewtocol_frame.specs.Frame.{form_in}
use Rattle.mewtocol_frame.proofs.frame.form_in.Goals as goal

pub returns-then-byte_at-eq60 : goal.returns-then-byte_at-eq60
unfolding form_in
returns-then-byte_at-eq60 c = sym (pick_yes _ _ _ (eq-eqb _ _ (via c.byte_at.ensures c.if-byte_at-eq60.true)))

pub returns : goal.returns
unfolding form_in
returns c = sym (pick_no _ _ _ (ne_eqb _ _ (λ e. c.if-byte_at-eq60.false (c.byte_at.ensures ∙ e))))
