-- The number is a form's, or it is not. Assumes nothing.
use borrow.Author.Tests.{le-leb, lt-leb}
use mathlib.Core.Path.{sym}
use native.Mathlib.Omega.{arith}
use lib.Dec.{leb}
use Rattle.rules.proofs.Choose.{pick_yes, pick_no}
use Rattle.jeulgopae_codes.specs.Asks.{command_in}
use Rattle.jeulgopae_codes.proofs.asks.command_in.Goals as goal

pub returns-then-form-le1 : goal.returns-then-form-le1
unfolding command_in
returns-then-form-le1 c = let n = c.args.form in sym (pick_yes (leb n 1) _ _ (le-leb n 1 (omega (arith, c.if-form-le1.true))))

pub returns : goal.returns
unfolding command_in
returns c = let n = c.args.form in sym (pick_no (leb n 1) _ _ (lt-leb n 1 (omega (arith, c.if-form-le1.false))))
