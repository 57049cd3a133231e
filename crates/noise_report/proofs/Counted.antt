-- The report of a list with one record more, and of one record by itself in each way that it can be. Assumes nothing.
use mathlib.Core.Bool.{Bool, true, false}
use mathlib.Core.List.{List, [], ◌∷◌, ◌++◌}
use mathlib.Core.Path.{◌≡◌, refl, sym, ap, ◌∙◌}
use Prim.Native.Nat.{ℕ, ◌+◌, ◌<◌}
use native.Mathlib.Omega.{arith}
use borrow.Author.Tests.{eq-eqb, le-leb}
use lib.ListN.{length, length-append}
use Rattle.rules.proofs.Choose.{both_false}
use Rattle.checks_shared.specs.Line.{Bytes, flipped}
use Rattle.checks_shared.specs.Right.{same}
use Rattle.checks_shared.proofs.Closed.{same_refl, same_true}
use Rattle.checks_crc.specs.Crc.{right_crc}
use Rattle.rules.specs.Given.{gives, refusal}
use Rattle.rules.specs.declared.Refusal.{Refusal}
use Rattle.checks_bit_count.specs.Differing.{given, bit_count}
use Rattle.checks_bit_count.specs.declared.BitCount.{BitCount}
use Rattle.checks_bit_count.specs.declared.BitCount.TheVariants.{Bits, Refused}
use Rattle.noise_report.specs.Records.{Pair, pair_of, Fine}
use Rattle.noise_report.specs.Numbers.{sum, one, is_faulty, is_refused, is_missed, flips, numbers, report_of, sum_of, Small}
use Rattle.theorems_damage.proofs.Flips.{flipped-none, flipped-self}

-- ---- sums

pub sum-append : (f : Pair → ℕ) (rs qs : List Pair) → sum f (rs ++ qs) ≡ sum f rs + sum f qs
unfolding sum
sum-append f [] qs = omega arith
sum-append f (p ∷ rs) qs = omega (arith, sum-append f rs qs)

numbers-eq : {p p' f f' l l' r r' m m' : ℕ} → p ≡ p' → f ≡ f' → l ≡ l' → r ≡ r' → m ≡ m' → numbers p f l r m ≡ numbers p' f' l' r' m'
numbers-eq a b c d e = cc

pub report-append : (rs qs : List Pair) → sum_of (report_of rs) (report_of qs) ≡ report_of (rs ++ qs)
report-append rs qs =
    numbers-eq (sym (length-append rs qs)) (sym (sum-append _ rs qs)) (sym (sum-append _ rs qs)) (sym (sum-append _ rs qs)) (sym (sum-append _ rs qs))

-- ---- one record

pub small_one : (a l r m : ℕ) → a < 2 → l < 65536 → r < 2 → m < 2 → Small (numbers 1 a l r m)
small_one a l r m ha hl hr hm = record { pairs = omega arith; faulty = omega arith; flipped = omega arith; refused = omega arith; missed = omega arith }

sum_one : (f : Pair → ℕ) (p : Pair) (n : ℕ) → f p ≡ n → n ≡ sum f (p ∷ [])
unfolding sum
sum_one f p n e = omega arith

module _ (f g : List ℕ) where
  of_one : (a l r m : ℕ) → one (is_faulty (pair_of f g)) ≡ a → flips (pair_of f g) ≡ l → one (is_refused (pair_of f g)) ≡ r → one (is_missed (pair_of f g)) ≡ m
      → numbers 1 a l r m ≡ report_of (pair_of f g ∷ [])
  of_one a l r m ea el er em =
      let p = pair_of f g in
      numbers-eq refl (sum_one (λ q. one (is_faulty q)) p a ea) (sum_one flips p l el) (sum_one (λ q. one (is_refused q)) p r er) (sum_one (λ q. one (is_missed q)) p m em)

  pub one-faulty : right_crc f ≡ false → numbers 1 1 0 0 0 ≡ report_of (pair_of f g ∷ [])
  one-faulty e = of_one 1 0 0 0 (rw e) (rw e) (rw e) (rw e)

  pub one-refused : (n : ℕ) → n ≡ flipped f g → right_crc f ≡ true → right_crc g ≡ false → numbers 1 0 n 1 0 ≡ report_of (pair_of f g ∷ [])
  one-refused n k e d = of_one 0 n 1 0 (rw e) (rw e (sym k)) (rw (e, d)) (rw (e, d, both_false))

  pub not_same : (flipped f g ≡ 0 → ⊥) → same f g ≡ false
  not_same h = go (same f g) refl
    where
      go : (t : Bool) → same f g ≡ t → t ≡ false
      go true e = absurd (h (ap (flipped f) (sym (same_true f g e)) ∙ flipped-self f))
      go false e = refl

  pub one-missed : (n : ℕ) → n ≡ flipped f g → (n ≡ 0 → ⊥) → right_crc f ≡ true → right_crc g ≡ true → numbers 1 0 n 0 1 ≡ report_of (pair_of f g ∷ [])
  one-missed n k z e d =
      let s : same f g ≡ false = not_same (λ q. z (k ∙ q)) in
      of_one 0 n 0 1 (rw e) (rw e (sym k)) (rw (e, d)) (rw (e, s, d))

  pub one-clean : Bytes f → Bytes g → length f ≡ length g → 0 ≡ flipped f g → right_crc f ≡ true → numbers 1 0 0 0 0 ≡ report_of (pair_of f g ∷ [])
  one-clean bf bg l k e =
      let q : f ≡ g = flipped-none f g bf bg l (sym k) in
      let d : right_crc g ≡ true = ap right_crc (sym q) ∙ e in
      let s : same f g ≡ true = ap (same f) (sym q) ∙ same_refl f in
      of_one 0 0 0 0 (rw e) (rw e (sym k)) (rw (e, d)) (rw (e, s))

-- ---- what the bit count gave

module _ (f g : List ℕ) (fine : Fine (pair_of f g)) (b : BitCount) (e : given b ≡ bit_count f g) where
  gave : given b ≡ gives (flipped f g)
  gave = e ∙ rw (eq-eqb (length f) (length g) fine.alike, le-leb (length f) 256 fine.most)

  pub gave-bits : (n : ℕ) → b ≡ Bits n → n ≡ flipped f g
  gave-bits n q = let z : gives n ≡ gives (flipped f g) = sym (ap given q) ∙ gave in cc

  pub gave-none : (r : Refusal) → b ≡ Refused r → ⊥
  gave-none r q =
      let z : refusal r ≡ gives (flipped f g) = sym (ap given q) ∙ gave in
      let no : ◌≡◌ {A = ℕ} 0 1 = cc in
      omega arith
