-- Laws of one hex digit. Assumes nothing.
use mathlib.Core.Path.{◌≡◌, refl}
use Prim.Native.Nat.{ℕ, ◌+◌, ◌-◌, ◌≤◌, ◌<◌}
use native.Mathlib.Omega.{arith}
use lib.Dec.{ltb}
use borrow.Author.Tests.{le-leb, lt-leb, ltb-true, ltb-false}
use Rattle.rules.specs.Choice.{between}
use Rattle.rules.proofs.Choose.{pick_all, is-between, below-range, above-range}
use Rattle.text_digits.specs.declared.Digit.TheVariants.{Is, NoDigit}
use Rattle.text_digits.proofs.Values.{Digits, ranged, none}
use Rattle.text_hex.specs.Hex.{hex_value, hex_digit}

hex-small : (x v : ℕ) → hex_value x ≡ Is v → v < 16
unfolding hex_value
hex-small x v =
    ranged 48 57 48 x v _ (v < 16) (λ l h e. omega arith)
    (ranged 65 70 55 x v NoDigit (v < 16) (λ l h e. omega arith) (none v (v < 16)))

hex-back : (n : ℕ) → n < 16 → hex_value (hex_digit n) ≡ Is n
unfolding hex_value hex_digit between
hex-back n h =
    pick_all (λ (d : ℕ). hex_value d ≡ Is n) (ltb n 10) (48 + n) (55 + n)
    (λ t.
    let l : n < 10 = ltb-true n 10 t in
    let e : 48 + n - 48 ≡ n = omega arith in
    rw (le-leb 48 (48 + n) (omega arith), le-leb (48 + n) 57 (omega arith), e))
    (λ f.
    let l : 10 ≤ n = ltb-false n 10 f in
    let e : 55 + n - 55 ≡ n = omega arith in
    rw (le-leb 48 (55 + n) (omega arith), lt-leb (55 + n) 57 (omega arith), le-leb 65 (55 + n) (omega arith), le-leb (55 + n) 70 (omega arith), e))

hex-only : (x v : ℕ) → hex_value x ≡ Is v → x ≡ hex_digit v
unfolding hex_value hex_digit
hex-only x v =
    ranged 48 57 48 x v _ (x ≡ hex_digit v)
    (λ l h e. pick_all (λ (d : ℕ). x ≡ d) (ltb v 10) (48 + v) (55 + v) (λ _. omega arith) (λ t. let g : 10 ≤ v = ltb-false v 10 t in absurd (omega arith)))
    (ranged 65 70 55 x v NoDigit (x ≡ hex_digit v)
    (λ l h e. pick_all (λ (d : ℕ). x ≡ d) (ltb v 10) (48 + v) (55 + v) (λ t. let g : v < 10 = ltb-true v 10 t in absurd (omega arith)) (λ _. omega arith))
    (none v (x ≡ hex_digit v)))

hex-none : hex_value 0 ≡ NoDigit
unfolding hex_value between
hex-none = refl

pub hex-digits : Digits 16 hex_value hex_digit
hex-digits = record { small = hex-small; back = hex-back; only = hex-only; none = hex-none }

-- ---- a character, by the range that it is in

pub hex_decimal : (x : ℕ) → 48 ≤ x → x ≤ 57 → hex_value x ≡ Is (x - 48)
unfolding hex_value
hex_decimal x l h = rw (is-between 48 57 x l h) refl

pub hex_letter : (x : ℕ) → 65 ≤ x → x ≤ 70 → hex_value x ≡ Is (x - 65 + 10)
unfolding hex_value
hex_letter x l h = let v : x - 55 ≡ x - 65 + 10 = omega arith in rw (above-range 48 57 x (omega arith), is-between 65 70 x l h, v) refl

pub hex_below : (x : ℕ) → x < 48 → hex_value x ≡ NoDigit
unfolding hex_value
hex_below x h = rw (below-range 48 57 x h, below-range 65 70 x (omega arith)) refl

pub hex_between : (x : ℕ) → 57 < x → x < 65 → hex_value x ≡ NoDigit
unfolding hex_value
hex_between x l h = rw (above-range 48 57 x l, below-range 65 70 x h) refl

pub hex_above : (x : ℕ) → 70 < x → hex_value x ≡ NoDigit
unfolding hex_value
hex_above x h = rw (above-range 48 57 x (omega arith), above-range 65 70 x h) refl
