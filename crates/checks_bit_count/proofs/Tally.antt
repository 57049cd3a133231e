-- The differing bits of two frames, counted byte by byte: what is left to count from byte i on, in one turn and at the end.
-- Assumes nothing.
use mathlib.Core.Bool.{Bool, true, false}
use mathlib.Core.List.{List, ◌∷◌}
use mathlib.Core.Path.{◌≡◌, refl, sym, ap, ap₂, ◌∙◌}
use Prim.Native.Nat.{ℕ, zero, suc, ◌+◌, ◌/◌, ◌%◌, ◌^◌, ◌≤◌, ◌<◌}
use native.Mathlib.Numerals.{add-one}
use native.Mathlib.Omega.{arith}
use lib.Arith.{lt-one}
use lib.Bits.{bit_xor}
use lib.Count.{ones, ones_step}
use lib.ListN.{length, get_or, drop, drop_of_length-le}
use lib.Seq.{drop-cons}
use Rattle.checks_shared.proofs.Bits.{is_one, digit, digit-is_one, bits_of, line, xors, count, count-append, ones-zero}
use Rattle.checks_shared.proofs.Xor.{digit_lt}

count-cons : (b : Bool) (x : List Bool) → count (b ∷ x) ≡ digit b + count x
unfolding count
count-cons true x = omega arith
count-cons false x = omega arith

ones-bits : (n b : ℕ) → b < 2 ^ n → ones b ≡ count (bits_of n b)
unfolding bits_of count
ones-bits zero b h = ap ones (lt-one h) ∙ ones-zero
ones-bits (suc n) b h =
    ones_step b
    ∙ ap₂ ◌+◌ (sym (digit-is_one (b % 2) (digit_lt b))) (ones-bits n (b / 2) (omega arith))
    ∙ sym (count-cons (is_one (b % 2)) (bits_of n (b / 2)))

module _ (f g : List ℕ) (i : ℕ) where
  -- the bits that differ from byte i on
  pub rest : ℕ
  rest = count (line (xors (drop i f) (drop i g)))

pub rest-turn : (f g : List ℕ) (i : ℕ) → i < length f → i < length g → bit_xor (get_or f i 0) (get_or g i 0) < 256
    → rest f g i ≡ ones (bit_xor (get_or f i 0) (get_or g i 0)) + rest f g (i + 1)
unfolding rest line xors
rest-turn f g i hf hg hx =
    let x = bit_xor (get_or f i 0) (get_or g i 0) in
    ap₂ (λ (u v : List ℕ). count (line (xors u v))) (drop-cons f i 0 hf) (drop-cons g i 0 hg)
    ∙ count-append (bits_of 8 x) (line (xors (drop (suc i) f) (drop (suc i) g)))
    ∙ ap₂ ◌+◌ (sym (ones-bits 8 x hx)) (ap (λ (j : ℕ). rest f g j) (sym (add-one i)))

pub rest_end : (f g : List ℕ) (i : ℕ) → length f ≤ i → rest f g i ≡ 0
unfolding rest line xors count
rest_end f g i h = ap (λ (u : List ℕ). count (line (xors u (drop i g)))) (drop_of_length-le f h)

pub rest_all : (f g : List ℕ) → rest f g 0 ≡ count (line (xors f g))
unfolding rest
rest_all f g = refl
