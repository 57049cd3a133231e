-- Each way says which of the two numbers it is, or that it is neither. Assumes nothing.
use mathlib.Core.Path.{sym, ◌∙◌}
use borrow.Author.Tests.{eq-eqb, ne_eqb}
use lib.Dec.{eqb}
use Rattle.rules.proofs.Choose.{pick_yes, pick_no}
use Rattle.modbus_line.specs.Framing.{whom_at}
use Rattle.modbus_line.proofs.whom.Goals as goal

pub returns-then-to-own : goal.returns-then-to-own
unfolding whom_at
returns-then-to-own c = let a = c.args in sym (pick_yes (eqb a.to a.own) _ _ (eq-eqb _ _ c.if-to-own.true))

pub returns-then-to-eq0 : goal.returns-then-to-eq0
unfolding whom_at
returns-then-to-eq0 c = let a = c.args in
    sym (pick_no (eqb a.to a.own) _ _ (ne_eqb _ _ c.if-to-own.false) ∙ pick_yes (eqb a.to 0) _ _ (eq-eqb _ _ c.if-to-eq0.true))

pub returns : goal.returns
unfolding whom_at
returns c = let a = c.args in
    sym (pick_no (eqb a.to a.own) _ _ (ne_eqb _ _ c.if-to-own.false) ∙ pick_no (eqb a.to 0) _ _ (ne_eqb _ _ c.if-to-eq0.false))
