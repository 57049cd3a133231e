-- The loop's invariant: r, folded with what is left of the frame, is the whole's. Assumes nothing.
use mathlib.Core.Path.{sym, ◌∙◌}
use native.Mathlib.Omega.{arith}
use lib.Bits.{bit_xor}
use Rattle.checks_shared.proofs.Fold.{fold-turn, fold_end}
use Rattle.checks_xor.proofs.xor_of.Goals as goal

pub loop-b-preserved : goal.loop-b-preserved
loop-b-preserved c =
    let at = c.loop-b in
    fold-turn bit_xor at.r c.args.frame.now at.b-index c.loop-b-test.true ∙ at.invariant

pub returns : goal.returns
returns c =
    let at = c.loop-b in
    sym (fold_end bit_xor at.r c.args.frame.now at.b-index c.loop-b-test.false) ∙ at.invariant
