-- Frames of one length differ exactly where some bit is flipped, so that two right ones that differ have at least four flipped bits: bytes
-- xored have no ones only where they are equal, and one to three flips never pass. Assumes nothing.
use mathlib.Core.Bool.{false≢true}
use mathlib.Core.List.{List, [], ◌∷◌}
use mathlib.Core.Logic.{⊎_elim}
use mathlib.Core.Path.{◌≡◌, refl, sym, ap, ap₂, ◌∙◌}
use Prim.Native.Nat.{ℕ, zero, suc, ◌/◌, ◌%◌, ◌^◌, ◌<◌}
use native.Mathlib.Nat.{suc_inj}
use native.Mathlib.Omega.{arith}
use lib.Arith.{lt-one}
use lib.Bits.{bit_xor, xor_zero_l, xor_lt}
use lib.ListN.{length}
use Rattle.checks_shared.specs.Line.{Bytes, bit_at, total, flipped}
use Rattle.checks_shared.proofs.Bits.{is_one, bits_of, line, xors, count, count-append, flipped-count, le-or-lt}
use Rattle.checks_shared.proofs.Xor.{differ_self, xor-cancel}
use Rattle.theorems_damage.specs.Damage.{few, FourToPass}
use Rattle.theorems_damage.proofs.Shows.{crc-shows-damage}

-- no ones, no number
bits_none : (n b : ℕ) → b < 2 ^ n → count (bits_of n b) ≡ 0 → b ≡ 0
unfolding bits_of count
bits_none zero b h e = lt-one h
bits_none (suc n) b h e = go (bits_none n (b / 2) (omega arith)) (b % 2) refl e
  where
    go : (count (bits_of n (b / 2)) ≡ 0 → b / 2 ≡ 0) → (d : ℕ) → b % 2 ≡ d → count (is_one d ∷ bits_of n (b / 2)) ≡ 0 → b ≡ 0
    go ih zero q z = omega (arith, ih z)
    go ih (suc d) q z = absurd (omega arith)

xor-none : (a b : ℕ) → bit_xor a b ≡ 0 → a ≡ b
xor-none a b e = sym (xor-cancel a b) ∙ ap (λ (x : ℕ). bit_xor x b) e ∙ xor_zero_l b

none_differ : (f g : List ℕ) → Bytes f → Bytes g → length f ≡ length g → count (line (xors f g)) ≡ 0 → f ≡ g
unfolding Bytes line xors
none_differ [] [] bf bg l e = refl
none_differ [] (b ∷ g) bf bg l e = absurd (omega arith)
none_differ (a ∷ f) [] bf bg l e = absurd (omega arith)
none_differ (a ∷ f) (b ∷ g) bf bg l e =
    let s = count-append (bits_of 8 (bit_xor a b)) (line (xors f g)) in
    ap₂ ◌∷◌ (xor-none a b (bits_none 8 (bit_xor a b) (xor_lt 8 a b bf.0 bg.0) (omega arith))) (none_differ f g bf.1 bg.1 (suc_inj l) (omega arith))

-- no flipped bit, the same frame
pub flipped-none : (f g : List ℕ) → Bytes f → Bytes g → length f ≡ length g → flipped f g ≡ 0 → f ≡ g
flipped-none f g bf bg l e = none_differ f g bf bg l (sym (flipped-count f g l) ∙ e)

total-none : (n : ℕ) (g : ℕ → ℕ) → ((k : ℕ) → g k ≡ 0) → total n g ≡ 0
unfolding total
total-none zero g h = refl
total-none (suc n) g h = omega (arith, h 0, total-none n (λ k. g (suc k)) (λ k. h (suc k)))

-- the same frame, no flipped bit
pub flipped-self : (f : List ℕ) → flipped f f ≡ 0
unfolding flipped
flipped-self f = total-none _ _ (λ k. differ_self (bit_at f k))

pub four-to-pass : FourToPass
four-to-pass f g bf bg l s rf rg d = ⊎_elim (λ h. h) (λ h. absurd (few-pass h)) (le-or-lt 4 (flipped f g))
  where
    some : (n : ℕ) → flipped f g ≡ n → 0 < n
    some zero e = absurd (d (flipped-none f g bf bg l e))
    some (suc n) e = omega arith

    few-pass : flipped f g < 4 → ⊥
    few-pass h = false≢true (sym (crc-shows-damage f g bf bg l s (few (some (flipped f g) refl) (omega arith)) rf) ∙ rg)
