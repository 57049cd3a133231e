-- The loop's invariant: r, folded with what is left of the frame, is the whole's. Assumes nothing.
use mathlib.Core.Path.{sym, ap, ◌∙◌}
use Prim.Native.Nat.{ℕ, ◌+◌}
use native.Mathlib.Omega.{arith}
use lib.ListN.{drop}
use Rattle.checks_crc.specs.Crc.{take_byte}
use Rattle.checks_shared.specs.Fold.{fold}
use Rattle.checks_shared.proofs.Fold.{fold-turn, fold_end}
use Rattle.checks_crc.proofs.crc_by_bits.Goals as goal

pub loop-i-preserved : goal.loop-i-preserved
loop-i-preserved c =
    let at = c.loop-i in
    let f = c.args.frame.now in
    ap (λ (s : ℕ). fold take_byte s (drop (at.i + 1) f)) c.take_byte-r.ensures
    ∙ fold-turn take_byte at.r f at.i (omega arith)
    ∙ at.invariant

pub returns : goal.returns
returns c =
    let at = c.loop-i in
    sym (fold_end take_byte at.r c.args.frame.now at.i (omega arith)) ∙ at.invariant
