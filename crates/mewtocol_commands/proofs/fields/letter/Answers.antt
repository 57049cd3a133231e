-- The test is that of the definition. Assumes nothing.
use mathlib.Core.Path.{◌∙◌}
use borrow.Author.Tests.{eq-eqb, ne_eqb}
use Rattle.rules.proofs.Choose.{via}
use Rattle.mewtocol_commands.specs.Fields.{letter}
use Rattle.mewtocol_commands.proofs.fields.letter.Goals as goal

pub returns-then-byte_at-x : goal.returns-then-byte_at-x
unfolding letter
returns-then-byte_at-x c = rw (eq-eqb _ _ (via c.byte_at.ensures c.if-byte_at-x.true))

pub returns : goal.returns
unfolding letter
returns c = rw (ne_eqb _ _ (λ e. c.if-byte_at-x.false (c.byte_at.ensures ∙ e)))
