-- The invariant: the answer for the whole list is the answer for what is left of it. Assumes nothing.
use Rattle.std.proofs.Common.{arith}
use mathlib.Core.Path.{sym, ◌∙◌}
use Rattle.rules.proofs.Choose.{via, pick_yes, pick_no}
use Rattle.table_registers.proofs.Lacking.{list-turn, list-end}
use Rattle.table_registers.proofs.check.first_failing.Goals as goal
use Rattle.table_registers.proofs.check.first_failing.Goals.{then-loop-i-test+then-not-passes, else-loop-i-test}

pub loop-i-preserved : goal.loop-i-preserved
loop-i-preserved g c = λ p ks n says.
    c.loop-i.invariant p ks n says ∙ list-turn p ks _ (omega arith) ∙ pick_yes _ _ _ (via (says _ _ c.loop-i-test.true c.passes.ensures) c.if-not-passes.false)

pub returns : goal.returns
returns g c = λ p ks n says.
    let so_far = c.loop-i.invariant p ks n says in
    elim c.loop-i-test.branch [
      | then-loop-i-test+then-not-passes w ↦ w.result-is
          ∙ sym (so_far ∙ list-turn p ks _ (omega arith) ∙ pick_no _ _ _ (via (says _ _ w.loop-i-test.true w.passes.ensures) w.if-not-passes.true))
      | else-loop-i-test w ↦ w.result-is ∙ sym (so_far ∙ list-end p ks _ (omega arith))
    ]
