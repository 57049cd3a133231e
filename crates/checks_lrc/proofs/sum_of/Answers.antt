-- The loop's invariant: s, folded with what is left of the bytes, is the whole's. Assumes nothing.
use mathlib.Core.Path.{sym, ◌∙◌}
use native.Mathlib.Omega.{arith}
use Rattle.checks_shared.proofs.Fold.{add, fold-turn, fold_end}
use Rattle.checks_lrc.proofs.sum_of.Goals as goal

pub loop-b-preserved : goal.loop-b-preserved
loop-b-preserved c =
    let at = c.loop-b in
    fold-turn add at.s c.args.bytes.now at.b-index c.loop-b-test.true ∙ at.invariant

pub returns : goal.returns
returns c =
    let at = c.loop-b in
    sym (fold_end add at.s c.args.bytes.now at.b-index c.loop-b-test.false) ∙ at.invariant
