-- Numbers as characters, in any base and width: read by one running value, written by its digits (RULES K1).
-- Assumes nothing.
use Rattle.std.specs.Prelude.{ℕ, zero, suc, ◌+◌, ◌-◌, ◌*◌, ◌/◌, ◌%◌, Bool, true, false, List, [], ◌∷◌, ◌++◌, get_or, drop}
use Rattle.rules.specs.Choice.{pick, between}
use Rattle.text_digits.specs.declared.Digit.{Digit}
use Rattle.text_digits.specs.declared.Digit.TheVariants.{Is, NoDigit}
use Rattle.text_digits.specs.declared.Number.{Number}
use Rattle.text_digits.specs.declared.Number.TheVariants.{Value, NoDigitAt}

abbrev pub with_digit {ℓ} : {A : Type ℓ} → Digit → (ℕ → A) → A → A
with_digit (Is d) f other = f d
with_digit NoDigit f other = other

abbrev pub is_digit : Digit → Bool
is_digit (Is d) = true
is_digit NoDigit = false

-- by what a field says, or by the place of its first character that is no digit
abbrev pub or_place {ℓ} : {A : Type ℓ} → Number → (ℕ → A) → (ℕ → A) → A
or_place (Value n) f other = f n
or_place (NoDigitAt p) f other = other p

-- the same, whatever the place
abbrev pub with_number {ℓ} : {A : Type ℓ} → Number → (ℕ → A) → A → A
with_number m f other = or_place m f (λ p. other)

abbrev pub is_value : Number → Bool
is_value m = with_number m (λ n. true) false

-- what follows a field, where that says a value; else its place
abbrev pub onward : Number → (ℕ → Number) → Number
onward m f = or_place m f NoDigitAt

-- a field that stands k characters further on, its places counted from the start
abbrev pub later : ℕ → Number → Number
later k m = or_place m Value (λ p. NoDigitAt (k + p))

-- the number that the first k characters of a text say, going on from v: each digit makes it `base` times as much and adds itself;
-- past the end of the text stands no digit
unfoldable pub running : ℕ → (ℕ → Digit) → ℕ → ℕ → List ℕ → Number
running base value v zero s = Value v
running base value v (suc k) s =
    with_digit (value (get_or s 0 0)) (λ d. later 1 (running base value (v * base + d) k (drop 1 s))) (NoDigitAt 0)

-- the last k digits of n, the highest first
unfoldable pub digits_in : ℕ → (ℕ → ℕ) → ℕ → ℕ → List ℕ
digits_in base character zero n = []
digits_in base character (suc k) n = digits_in base character k (n / base) ++ (character (n % base) ∷ [])

-- the value of a decimal digit
unfoldable pub decimal_value : ℕ → Digit
decimal_value x = pick (between 48 57 x) (Is (x - 48)) NoDigit

abbrev pub decimal_digit : ℕ → ℕ
decimal_digit d = 48 + d

-- a decimal field of k characters: ten times the value so far plus the digit
abbrev pub decimal : ℕ → List ℕ → Number
decimal k s = running 10 decimal_value 0 k s

abbrev pub decimals : ℕ → ℕ → List ℕ
decimals k n = digits_in 10 decimal_digit k n
