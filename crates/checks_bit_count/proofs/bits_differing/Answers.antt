-- The loop's invariant: n and what the bytes from i on differ in make the whole, and n is at most eight for each byte passed.
-- Assumes nothing.
use mathlib.Core.Path.{◌≡◌}
use Prim.Native.Nat.{ℕ, ◌+◌, ◌*◌, ◌≤◌, ◌<◌}
use native.Mathlib.Omega.{arith}
use borrow.Author.Tests.{eq-eqb, le-leb}
use lib.Bits.{bit_xor, xor_lt}
use lib.Count.{ones, ones-le}
use lib.ListN.{length}
use mir.Syntax.{w32}
use mir.Val.{Fits}
use Rattle.checks_shared.specs.Line.{flipped}
use Rattle.checks_shared.proofs.Bits.{flipped-count}
use Rattle.checks_bit_count.proofs.Tally.{rest-turn, rest_end, rest_all}
use Rattle.checks_bit_count.proofs.bits_differing.Goals as goal

-- two bytes xored are a byte, and a byte has eight ones at most
module _ {a b : ℕ} (ha : a < 256) (hb : b < 256) where
  byte_fits : Fits w32 (bit_xor a b)
  byte_fits = omega (arith, xor_lt 8 a b ha hb)

  count-le : (i : ℕ) {n : ℕ} → n ≤ 8 * i → n + ones (bit_xor a b) ≤ 8 * (i + 1)
  count-le i h = omega (arith, ones-le 8 (bit_xor a b) (xor_lt 8 a b ha hb))

  count_fits : (i : ℕ) {n : ℕ} → n ≤ 8 * i → i < 256 → Fits w32 (n + ones (bit_xor a b))
  count_fits i h k = omega (arith, count-le i h)

pub loop-i-preserved : goal.loop-i-preserved
loop-i-preserved c =
    let at = c.loop-i in
    let xs = c.args.a.now in
    let ys = c.args.b.now in
    let byte = xor_lt 8 _ _ (c.type_inv.a at.i).fits (c.type_inv.b at.i).fits in (
      count-le (c.type_inv.a _).fits (c.type_inv.b _).fits at.i at.invariant.0,
      omega (arith, rest-turn xs ys at.i (omega arith) (omega arith) byte),
    )

pub returns : goal.returns
returns c =
    let f = c.args.a.now in
    let g = c.args.b.now in
    let l : length f ≡ length g = c.if-a-b.false in
    let all : c.loop-i.n ≡ flipped f g =
    omega (arith, rest_end f g c.loop-i.i (omega arith), rest_all f g, flipped-count f g l) in
    simp (eq-eqb _ _ l, le-leb _ _ c.if-a-gt256.false, all)
