-- A number below zero is -1 less its distance from -1, on the way from bits and on the way to them. Assumes nothing.
use mathlib.Core.Path.{◌≡◌, refl, sym, ap, subst, ◌∙◌}
use mathlib.Core.Bool.{Bool, true, false, false≢true}
use Prim.Native.Nat.{ℕ, zero, suc, ◌-◌, ◌<◌, ◌≤◌}
use native.Mathlib.Nat.{zero-add}
use native.Mathlib.Omega.{arith}
use borrow.Author.Tests.{ltb-true, leb-true, leb-false, lt-ltb, le-ltb}
use lib.Dec.{T}
use lib.IntN.{ℤ, pos, negsuc, nat_abs, pred_ℤ, ◌-ℤ◌, pred_ℤ-+ℤ}
use lib.Signed.{mag, lt_z, le_z, non_neg}
use mir.Syntax.{w32}
use mir.Val.{to_z, of_z, Fits, SFits}
use mir.Facts.{to_z-of_z, to_z_pos}
use Rattle.host_pairs.specs.Pairs.{bits, is_writable}

-- ---- from bits to a number

minus-one-less : (n : ℕ) → negsuc 0 -ℤ pos n ≡ negsuc n
minus-one-less zero = refl
minus-one-less (suc n) = ap (λ (k : ℕ). negsuc (suc k)) (zero-add n)

pub below-is : (n : ℕ) → n < 2147483648 → negsuc 0 -ℤ to_z w32 n ≡ negsuc n
below-is n h = ap (λ (z : ℤ). negsuc 0 -ℤ z) (to_z_pos w32 {n = n} h) ∙ minus-one-less n

pub below-fits : (n : ℕ) → n < 2147483648 → SFits w32 (negsuc 0 -ℤ to_z w32 n)
below-fits n h = subst (SFits w32) (sym (below-is n h)) (record { sfits = h })

-- ---- from a number to bits

-- -1 less a number below zero
from-minus-one : (z : ℤ) → lt_z z (pos 0) ≡ true → negsuc 0 -ℤ z ≡ pos (mag z)
from-minus-one (pos n) t = absurd (omega (arith, ltb-true n 0 t))
from-minus-one (negsuc n) t = pred_ℤ-+ℤ (pos 0) (pos (suc n)) ∙ ap (λ (k : ℕ). pred_ℤ (pos k)) (zero-add (suc n))

-- and one that is not below zero
from_zero : (z : ℤ) → lt_z z (pos 0) ≡ false → z ≡ pos (mag z)
from_zero (pos n) t = refl
from_zero (negsuc n) t = absurd (false≢true (sym t))

bits_below : (z : ℤ) → lt_z z (pos 0) ≡ true → 4294967295 - mag z ≡ bits z
bits_below (pos n) t = absurd (omega (arith, ltb-true n 0 t))
bits_below (negsuc n) t = refl

bits-from-zero : (z : ℤ) → lt_z z (pos 0) ≡ false → mag z ≡ bits z
bits-from-zero (pos n) t = refl
bits-from-zero (negsuc n) t = absurd (false≢true (sym t))

-- the number as the code reads it
module _ (z : ℤ) (f : SFits w32 z) where
  abbrev read : ℤ
  read = to_z w32 (of_z w32 z)

  told : {b : Bool} → lt_z read (pos 0) ≡ b → lt_z z (pos 0) ≡ b
  told t = ap (λ (s : ℤ). lt_z s (pos 0)) (sym (to_z-of_z f)) ∙ t

  module _ (t : lt_z read (pos 0) ≡ true) where
    distance : negsuc 0 -ℤ read ≡ pos (mag z)
    distance = ap (λ (s : ℤ). negsuc 0 -ℤ s) (to_z-of_z f) ∙ from-minus-one z (told t)

    pub distance-fits : SFits w32 (negsuc 0 -ℤ read)
    distance-fits = subst (SFits w32) (sym distance) (record { sfits = f.sfits })

    distance_read : to_z w32 (of_z w32 (negsuc 0 -ℤ read)) ≡ pos (mag z)
    distance_read = to_z-of_z distance-fits ∙ distance

    pub distance-casts : T (non_neg (to_z w32 (of_z w32 (negsuc 0 -ℤ read)))) × Fits w32 (nat_abs (to_z w32 (of_z w32 (negsuc 0 -ℤ read))))
    distance-casts =
        subst (λ (s : ℤ). T (non_neg s) × Fits w32 (nat_abs s)) (sym distance_read) (tt, record { fits = omega (arith, f.sfits) })

    pub distance-small : nat_abs (to_z w32 (of_z w32 (negsuc 0 -ℤ read))) ≤ 4294967295
    distance-small = omega (arith, ap nat_abs distance_read, f.sfits)

    pub below-bits : 4294967295 - nat_abs (to_z w32 (of_z w32 (negsuc 0 -ℤ read))) ≡ bits z
    below-bits = ap (λ (s : ℤ). 4294967295 - nat_abs s) distance_read ∙ bits_below z (told t)

  module _ (t : lt_z read (pos 0) ≡ false) where
    itself : read ≡ pos (mag z)
    itself = to_z-of_z f ∙ from_zero z (told t)

    pub casts : T (non_neg read) × Fits w32 (nat_abs read)
    casts = subst (λ (s : ℤ). T (non_neg s) × Fits w32 (nat_abs s)) (sym itself) (tt, record { fits = omega (arith, f.sfits) })

    pub from-zero-bits : nat_abs read ≡ bits z
    from-zero-bits = ap nat_abs itself ∙ bits-from-zero z (told t)

-- ---- the two ends

not-above : (z : ℤ) → le_z (negsuc 949999) z ≡ true → le_z z (pos 950000) ≡ is_writable z
not-above (pos n) t = refl
not-above (negsuc k) t = let h : k ≤ 949999 = leb-true k 949999 t in sym (lt-ltb k 950000 (omega (arith, h)))

not-below : (z : ℤ) → le_z (negsuc 949999) z ≡ false → false ≡ is_writable z
not-below (pos n) t = absurd (false≢true (sym t))
not-below (negsuc k) t = let h : 949999 < k = leb-false k 949999 t in sym (le-ltb k 950000 (omega (arith, h)))

pub upper-end : (z : ℤ) → SFits w32 z → le_z (negsuc 949999) (to_z w32 (of_z w32 z)) ≡ true → le_z (to_z w32 (of_z w32 z)) (pos 950000) ≡ is_writable z
upper-end z f t =
    ap (λ (s : ℤ). le_z s (pos 950000)) (to_z-of_z f) ∙ not-above z (ap (le_z (negsuc 949999)) (sym (to_z-of_z f)) ∙ t)

pub lower-end : (z : ℤ) → SFits w32 z → le_z (negsuc 949999) (to_z w32 (of_z w32 z)) ≡ false → le_z (negsuc 949999) (to_z w32 (of_z w32 z)) ≡ is_writable z
lower-end z f t = t ∙ not-below z (ap (le_z (negsuc 949999)) (sym (to_z-of_z f)) ∙ t)
