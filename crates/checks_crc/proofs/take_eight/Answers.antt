-- The loop's invariant: what is left of the 64 shifts makes of the number what all make of it at the start. Assumes nothing.
use mathlib.Core.Path.{◌≡◌, sym, ap, ◌∙◌}
use Prim.Native.Nat.{ℕ, suc, ◌+◌, ◌-◌, ◌*◌}
use native.Mathlib.Omega.{arith}
use lib.Bits.{bit_xor}
use lib.Dec.{lit≤}
use lib.ListN.{drop}
use Rattle.checks_crc.specs.Crc.{shifts, take_byte}
use Rattle.checks_crc.specs.Runs.{low_first}
use Rattle.checks_shared.specs.Fold.{fold}
use Rattle.checks_crc.proofs.Runs.{eight-more, low-eight, fed-run}
use Rattle.checks_crc.proofs.take_eight.Goals as goal

pub loop-k-init : goal.loop-k-init
loop-k-init c =
    let a = c.args in
    let low : c.four_from.result + 4294967296 * c.four_from-2.result ≡ low_first 8 a.s.now a.i =
    omega (arith, c.four_from.ensures, c.four_from-2.ensures, low-eight a.s.now a.i) in
    ap (λ (w : ℕ). shifts 64 (bit_xor a.r w)) low

pub loop-k-preserved : goal.loop-k-preserved
loop-k-preserved c =
    let at = c.loop-k in
    let e : 8 - at._k ≡ suc (8 - (at._k + 1)) = omega arith in
    ap (shifts (8 * (8 - (at._k + 1)))) c.byte_out-x.ensures
    ∙ sym (eight-more (8 - (at._k + 1)) at.x)
    ∙ ap (λ (n : ℕ). shifts (8 * n) at.x) (sym e)
    ∙ at.invariant

pub returns : goal.returns
unfolding shifts
returns c =
    let at = c.loop-k in
    let start = c in
    let a = start.args in
    let none : 0 ≡ 8 - at._k = omega arith in
    let is : at.x ≡ shifts 64 (bit_xor a.r (low_first 8 a.s.now a.i)) = ap (λ (n : ℕ). shifts (8 * n) at.x) none ∙ at.invariant in
    let fed = fed-run a.s.now (λ j. (c.type_inv.s j).fits) 8 a.i a.r start.requires.2 start.requires.1 in
    record { small = omega (arith, is, fed.small); same = ap (λ (q : ℕ). fold take_byte q (drop (a.i + 8) a.s.now)) is ∙ fed.same }
