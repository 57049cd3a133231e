-- Two characters that are hex digits say the byte that arithmetic makes of them. Assumes nothing.
use mathlib.Core.Bool.{true, false≢true}
use mathlib.Core.List.{List, [], ◌∷◌}
use mathlib.Core.Path.{◌≡◌, refl, sym, ap, ◌∙◌}
use Prim.Native.Nat.{ℕ, zero, suc, ◌+◌, ◌*◌, ◌/◌, ◌%◌, ◌<◌}
use native.Mathlib.Numerals.{add-one}
use native.Mathlib.Omega.{arith}
use lib.ListN.{length, get_or, drop}
use Rattle.rules.proofs.Choose.{both_left, both_right}
use Rattle.text_digits.specs.Digits.{is_digit}
use Rattle.text_digits.specs.declared.Digit.{Digit}
use Rattle.text_digits.specs.declared.Digit.TheVariants.{Is, NoDigit}
use Rattle.text_digits.specs.declared.Number.TheVariants.{Value}
use Rattle.text_digits.proofs.Values.{ranged, none}
use Rattle.text_digits.proofs.Running.{running-says}
use Rattle.text_hex.specs.Hex.{hex_value, hex, all_hex, quick, pair_of}
use Rattle.text_hex.proofs.Values.{hex-digits}

-- the digit, from its test
digit-of : (x : Digit) → is_digit x ≡ true → (v : ℕ) × (x ≡ Is v)
digit-of (Is v) e = (v, refl)
digit-of NoDigit e = absurd (false≢true e)

-- its value without a choice
quick-value : (x v : ℕ) → hex_value x ≡ Is v → v ≡ quick x
unfolding hex_value
quick-value x v =
    ranged 48 57 48 x v _ (v ≡ quick x) (λ l h e. omega arith)
    (ranged 65 70 55 x v NoDigit (v ≡ quick x) (λ l h e. omega arith) (none v (v ≡ quick x)))

-- a digit is one byte
digit-byte : (x v : ℕ) → hex_value x ≡ Is v → x < 256
unfolding hex_value
digit-byte x v =
    ranged 48 57 48 x v _ (x < 256) (λ l h e. omega arith)
    (ranged 65 70 55 x v NoDigit (x < 256) (λ l h e. omega arith) (none v (x < 256)))

two_digits : (x y p q : ℕ) → x ≡ p → y ≡ q → x < 16 → y < 16 → (0 * 16 + x) * 16 + y ≡ (16 * p + q) % 256
two_digits x y p q a b l h = omega arith

-- where every character is a digit, each is
pub all_hex-at : (s : List ℕ) → all_hex s ≡ true → (j : ℕ) → j < length s → is_digit (hex_value (get_or s j 0)) ≡ true
unfolding all_hex
all_hex-at [] e j h = absurd (omega arith)
all_hex-at (x ∷ xs) e zero h = both_left _ _ e
all_hex-at (x ∷ xs) e (suc j) h = all_hex-at xs (both_right (is_digit (hex_value x)) _ e) j (omega arith)

-- two characters, and the word of them
pub pair-says : (s : List ℕ) (o w : ℕ) → is_digit (hex_value (get_or s o 0)) ≡ true → is_digit (hex_value (get_or s (o + 1) 0)) ≡ true
    → w ≡ get_or s o 0 + 256 * get_or s (o + 1) 0 → hex 2 (drop o s) ≡ Value (pair_of w)
pair-says s o w p q e =
    let x = digit-of _ p in
    let y = digit-of _ q in
    let next : hex_value (get_or s (suc o) 0) ≡ Is y.0 = ap (λ (k : ℕ). hex_value (get_or s k 0)) (sym (add-one o)) ∙ y.1 in
    let low : w % 256 ≡ get_or s o 0 = omega (arith, e, digit-byte _ _ x.1) in
    let high : w / 256 ≡ get_or s (o + 1) 0 = omega (arith, e, digit-byte _ _ x.1) in
    let told : pair_of w ≡ (16 * quick (get_or s o 0) + quick (get_or s (o + 1) 0)) % 256 = rw (low, high) in
    let value = two_digits x.0 y.0 _ _ (quick-value _ _ x.1) (quick-value _ _ y.1) (hex-digits.small _ _ x.1) (hex-digits.small _ _ y.1) in
    running-says 16 hex_value (x.0 ∷ y.0 ∷ []) o 0 s (x.1, (next, tt)) ∙ ap Value (value ∙ sym told)
