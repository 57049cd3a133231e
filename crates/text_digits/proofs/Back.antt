-- What is written is read back, and what is read is what would be written: one law each for every base and width. Assumes nothing.
use mathlib.Core.Path.{◌≡◌, refl, sym, ap, ◌∙◌}
use mathlib.Core.List.{List, [], ◌∷◌, ◌++◌, append_assoc}
use Prim.Native.Nat.{ℕ, zero, suc, ◌+◌, ◌*◌, ◌/◌, ◌%◌, ◌^◌, ◌<◌, suc-le-suc}
use native.Mathlib.Nat.{pow-zero, pow-suc, mod-lt, div-lt_iff_lt-mul, div-add-mod', add-zero, zero-lt-suc}
use native.Mathlib.Numerals.{add-one}
use native.Mathlib.Omega.{arith}
use lib.Arith.{digits_div, digits_mod}
use lib.Dec.{lit<}
use lib.ListN.{length, take, drop, get_or, length-append}
use lib.Seq.{take-suc, drop_at, get_or-drop}
use Rattle.text_digits.specs.Digits.{with_digit, onward, later, running, digits_in, decimal, decimals}
use Rattle.text_digits.specs.declared.Digit.{Digit}
use Rattle.text_digits.specs.declared.Digit.TheVariants.{Is, NoDigit}
use Rattle.text_digits.specs.declared.Number.TheVariants.{Value, NoDigitAt}
use Rattle.text_digits.proofs.Values.{Digits, decimal-digits}
use Rattle.text_digits.proofs.Running.{running-split, with_value, digit_value, onward-same}

pub digits_in-length : (base : ℕ) (character : ℕ → ℕ) (k n : ℕ) → length (digits_in base character k n) ≡ k
unfolding digits_in
digits_in-length base character zero n = refl
digits_in-length base character (suc k) n = rw (length-append, digits_in-length base character k (n / base)) (add-one k)

later-digit : (k : ℕ) (x : Digit) (f : ℕ → ℕ) → later k (with_digit x (λ d. Value (f d)) (NoDigitAt 0)) ≡ with_digit x (λ d. Value (f d)) (NoDigitAt k)
later-digit k (Is d) f = refl
later-digit k NoDigit f = ap NoDigitAt (add-zero k)

-- one character more at the end of a field
running-last : (base : ℕ) (value : ℕ → Digit) (k : ℕ) (s : List ℕ)
    → running base value 0 (suc k) s ≡ onward (running base value 0 k s) (λ w. with_digit (value (get_or (drop k s) 0 0)) (λ d. Value (w * base + d)) (NoDigitAt k))
unfolding running
running-last base value k s = ap (λ (n : ℕ). running base value 0 n s) (sym (add-one k)) ∙ running-split base value k 1 0 s
    ∙ onward-same (running base value 0 k s) _ _ (λ w. later-digit k (value (get_or (drop k s) 0 0)) (λ d. w * base + d))

module _ {base : ℕ} {value : ℕ → Digit} {character : ℕ → ℕ} (D : Digits base value character) (positive : 0 < base) where
  -- what is written is read back, whatever follows it
  pub read_back : (k n : ℕ) (t : List ℕ) → n < base ^ k → running base value 0 k (digits_in base character k n ++ t) ≡ Value n
  unfolding digits_in running
  read_back zero n t h = let z : n ≡ 0 = omega (arith, pow-zero base) in ap Value (sym z)
  read_back (suc k) n t h =
      let front = digits_in base character k (n / base) in
      let x = character (n % base) in
      let l : n / base < base ^ k = (div-lt_iff_lt-mul positive).1 (rw pow-suc at h) in
      let s : (front ++ (x ∷ [])) ++ t ≡ front ++ (x ∷ t) = append_assoc front (x ∷ []) t in
      ap (running base value 0 (suc k)) s
      ∙ running-last base value k (front ++ (x ∷ t))
      ∙ rw (read_back k (n / base) (x ∷ t) l, drop_at front (x ∷ t) k (digits_in-length base character k (n / base)), D.back (n % base) (mod-lt n positive))
      (ap Value (div-add-mod' n base))

  -- past the end of a text stands no digit
  digit-within : (k v : ℕ) (s : List ℕ) → value (get_or s k 0) ≡ Is v → k < length s
  digit-within zero v [] e = let z : ◌≡◌ {A = ℕ} 0 1 = cc D.none in absurd (omega arith)
  digit-within (suc k) v [] e = let z : ◌≡◌ {A = ℕ} 0 1 = cc D.none in absurd (omega arith)
  digit-within zero v (x ∷ s) e = zero-lt-suc (length s)
  digit-within (suc k) v (x ∷ s) e = suc-le-suc (digit-within k v s e)

  -- what is read is what would be written
  pub read_only : (k n : ℕ) (s : List ℕ) → running base value 0 k s ≡ Value n → take k s ≡ digits_in base character k n
  unfolding digits_in
  read_only zero n s e = refl
  read_only (suc k) n s e =
      let r = with_value (running base value 0 k s) _ n (sym (running-last base value k s) ∙ e) in
      let q = digit_value (value (get_or (drop k s) 0 0)) _ k n r.1.1 in
      let there : get_or (drop k s) 0 0 ≡ get_or s k 0 = get_or-drop k s 0 0 ∙ ap (λ (j : ℕ). get_or s j 0) (add-zero k) in
      let d : value (get_or s k 0) ≡ Is q.0 = ap value (sym there) ∙ q.1.0 in
      let small : q.0 < base = D.small (get_or s k 0) q.0 d in
      let made : r.0 * base + q.0 ≡ n = cc q.1.1 in
      let high : n / base ≡ r.0 = ap (λ (m : ℕ). m / base) (sym made) ∙ digits_div r.0 small in
      let low : n % base ≡ q.0 = ap (λ (m : ℕ). m % base) (sym made) ∙ digits_mod r.0 small in
      rw (high, low, ← D.only (get_or s k 0) q.0 d, ← read_only k r.0 s r.1.0) (take-suc s k 0 (digit-within k q.0 s d))

  -- two numbers that are written alike are the same
  pub written_once : (k a b : ℕ) → a < base ^ k → b < base ^ k → digits_in base character k a ≡ digits_in base character k b → a ≡ b
  written_once k a b ha hb e =
      let p : Value a ≡ Value b = sym (read_back k a [] ha) ∙ ap (λ (l : List ℕ). running base value 0 k (l ++ [])) e ∙ read_back k b [] hb in
      cc

  -- two texts that say the same have the same characters
  pub read-once : (k n : ℕ) (s t : List ℕ) → running base value 0 k s ≡ Value n → running base value 0 k t ≡ Value n → take k s ≡ take k t
  read-once k n s t p q = read_only k n s p ∙ sym (read_only k n t q)

pub decimal-back : (k n : ℕ) (t : List ℕ) → n < 10 ^ k → decimal k (decimals k n ++ t) ≡ Value n
decimal-back = read_back decimal-digits (lit< tt)
