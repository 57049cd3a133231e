-- Upper-case hex: a character, and a byte as two (RULES K2, K3). Assumes nothing.
use Rattle.std.specs.Prelude.{ℕ, ◌+◌, ◌-◌, ◌*◌, ◌/◌, ◌%◌, List, [], ◌∷◌, Bool, true, ltb}
use Rattle.rules.specs.Choice.{pick, both, between}
use Rattle.text_digits.specs.Digits.{is_digit, running, digits_in}
use Rattle.text_digits.specs.declared.Digit.{Digit}
use Rattle.text_digits.specs.declared.Digit.TheVariants.{Is, NoDigit}
use Rattle.text_digits.specs.declared.Number.{Number}

-- the value of an upper-case hex digit; lower case is none
unfoldable pub hex_value : ℕ → Digit
hex_value x = pick (between 48 57 x) (Is (x - 48)) (pick (between 65 70 x) (Is (x - 55)) NoDigit)

-- the upper-case hex digit of a number below 16
unfoldable pub hex_digit : ℕ → ℕ
hex_digit n = pick (ltb n 10) (48 + n) (55 + n)

-- the number that the first k characters say
abbrev pub hex : ℕ → List ℕ → Number
hex k s = running 16 hex_value 0 k s

abbrev pub hex_digits : ℕ → ℕ → List ℕ
hex_digits k n = digits_in 16 hex_digit k n

abbrev pub hex_byte : ℕ → List ℕ
hex_byte b = hex_digits 2 b

-- every character is an upper-case hex digit
unfoldable pub all_hex : List ℕ → Bool
all_hex [] = true
all_hex (x ∷ xs) = both (is_digit (hex_value x)) (all_hex xs)

-- what arithmetic makes of a character: the last four bits, and nine more from 64 on; of a hex digit that is its value
abbrev pub quick : ℕ → ℕ
quick x = x % 16 + 9 * (x / 64)

-- and of two characters, the first in the low half of a word; of two hex digits that is the byte that they say
abbrev pub pair_of : ℕ → ℕ
pair_of w = (16 * quick (w % 256) + quick (w / 256)) % 256
