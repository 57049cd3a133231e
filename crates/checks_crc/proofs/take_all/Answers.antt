-- The loops' invariant: the register, fed with what is left, is what all make of it at the start. Assumes nothing.
use mathlib.Core.Path.{sym, ◌∙◌}
use native.Mathlib.Omega.{arith}
use borrow.Author.Rules.{rules}
use Rattle.checks_crc.specs.Crc.{take_byte}
use Rattle.checks_shared.proofs.Fold.{fold_end}
use Rattle.checks_crc.proofs.Runs.{fed-next}
use Rattle.checks_crc.proofs.take_all.Goals as goal

pub loop-k-preserved : goal.loop-k-preserved
loop-k-preserved c =
    let at = c.loop-k in
    let s = c.args.s.now in
    (search rules, fed-next s _ at.k _ _ (c.type_inv.s at.k).fits (omega arith) c.byte_out-q.ensures at.invariant.1)

pub returns : goal.returns
returns c =
    let at = c.loop-k in
    let s = c.args.s.now in
    (at.invariant.1.small, sym (fold_end take_byte at.q s at.k (omega arith)) ∙ at.invariant.1.same)
