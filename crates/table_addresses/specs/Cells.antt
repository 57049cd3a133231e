-- A contact as four characters name it (RULES N9). Assumes nothing.
use Rattle.std.specs.Prelude.{ℕ, List, get_or}
use Rattle.text_digits.specs.Digits.{with_digit, onward, decimal}
use Rattle.text_digits.specs.declared.Number.{Number}
use Rattle.text_digits.specs.declared.Number.TheVariants.{Value, NoDigitAt}
use Rattle.text_hex.specs.Hex.{hex_value}
use Rattle.table_addresses.specs.Areas.{cell}

-- a contact's four characters: three decimal digits, the relay word, and a hex digit, the bit
unfoldable pub contact_of : List ℕ → Number
contact_of s = onward (decimal 3 s) (λ relay. with_digit (hex_value (get_or s 3 0)) (λ bit. Value (cell relay bit)) (NoDigitAt 3))
