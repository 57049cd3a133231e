-- The loops' invariants: one register is fed with the bytes before the last 128, the other with those, and both go in whole turns of eight.
-- Assumes nothing.
use mathlib.Core.Path.{◌≡◌, sym, ap, ap₂, ◌∙◌}
use Prim.Native.Nat.{ℕ, ◌-◌, ◌%◌}
use native.Mathlib.Omega.{arith}
use lib.Bits.{bit_xor}
use lib.ListN.{length, drop}
use Rattle.checks_crc.specs.Crc.{shifts, take_byte}
use Rattle.checks_crc.specs.Runs.{Fed}
use Rattle.checks_shared.specs.Fold.{fold}
use Rattle.checks_shared.proofs.Fold.{fold_end}
use Rattle.checks_crc.proofs.Runs.{fed-next, two_runs}
use Rattle.checks_crc.proofs.crc_by_two_runs.Goals as goal

pub loop-k-preserved : goal.loop-k-preserved
loop-k-preserved c =
    let at = c.loop-k in
    let f = c.args.frame.now in
    fed-next f _ at.k _ _ (c.type_inv.frame at.k).fits (omega arith) c.byte_out-p.ensures at.invariant

pub returns : goal.returns
returns c =
    let last = c.loop-j in
    let at = c.loop-i in
    let f = c.args.frame.now in
    let all : at.i ≡ length f - 128 = omega (arith, at.invariant.0) in
    let one = at.invariant.3 in
    let fed : Fed f 0 0xFFFF (length f - 128) at.p =
    record { small = one.small; same = ap (λ (i : ℕ). fold take_byte at.p (drop i f)) (sym all) ∙ one.same } in
    let whole = two_runs f 0xFFFF (length f - 128) last.j at.p last.q last.q (omega arith) fed last.invariant.2 (sym (fold_end take_byte last.q f last.j (omega arith))) in
    let low : at.p % 65536 ≡ at.p = omega (arith, one.small) in
    let high : last.q % 65536 ≡ last.q = omega (arith, last.invariant.2.small) in
    ap₂ bit_xor (c.past_128.ensures ∙ ap (shifts 1024) low) high ∙ whole
