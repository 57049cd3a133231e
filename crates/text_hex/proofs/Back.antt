-- Hex that is written is read back. Assumes nothing.
use mathlib.Core.Path.{◌≡◌, refl}
use mathlib.Core.List.{List, [], ◌∷◌, ◌++◌}
use Prim.Native.Nat.{ℕ, ◌/◌, ◌%◌, ◌^◌, ◌<◌}
use lib.Dec.{lit<}
use Rattle.text_digits.specs.Digits.{digits_in}
use Rattle.text_digits.specs.declared.Number.TheVariants.{Value}
use Rattle.text_digits.proofs.Back.{read_back, written_once}
use Rattle.text_hex.specs.Hex.{hex_digit, hex, hex_digits, hex_byte}
use Rattle.text_hex.proofs.Values.{hex-digits}

pub hex-back : (k n : ℕ) (t : List ℕ) → n < 16 ^ k → hex k (hex_digits k n ++ t) ≡ Value n
hex-back = read_back hex-digits (lit< tt)

pub hex_byte-once : (a b : ℕ) → a < 256 → b < 256 → hex_byte a ≡ hex_byte b → a ≡ b
hex_byte-once = written_once hex-digits (lit< tt) 2

pub hex_byte-cells : (b : ℕ) → hex_byte b ≡ hex_digit (b / 16 % 16) ∷ hex_digit (b % 16) ∷ []
unfolding digits_in
hex_byte-cells b = refl
