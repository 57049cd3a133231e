-- The number is 1, or it is not. Assumes nothing.
use borrow.Author.Tests.{eq-eqb, ne_eqb}
use mathlib.Core.Path.{sym}
use lib.Dec.{eqb}
use Rattle.rules.proofs.Choose.{pick_yes, pick_no}
use Rattle.jeulgopae_codes.specs.Asks.{form_of}
use Rattle.jeulgopae_codes.proofs.asks.form_of.Goals as goal

pub returns-then-form-eq1 : goal.returns-then-form-eq1
unfolding form_of
returns-then-form-eq1 c = let n = c.args.form in sym (pick_yes (eqb n 1) _ _ (eq-eqb n 1 c.if-form-eq1.true))

pub returns : goal.returns
unfolding form_of
returns c = let n = c.args.form in sym (pick_no (eqb n 1) _ _ (ne_eqb n 1 c.if-form-eq1.false))
