-- A word as four upper-case hex characters, with the low byte first (MEWTOCOL) or the high byte first (Modbus; RULES K3, K4). Assumes nothing.
use Rattle.std.specs.Prelude.{ℕ, ◌+◌, ◌*◌, ◌/◌, ◌%◌, List, ◌++◌, drop}
use Rattle.text_digits.specs.Digits.{onward, later}
use Rattle.text_digits.specs.declared.Number.{Number}
use Rattle.text_digits.specs.declared.Number.TheVariants.{Value}
use Rattle.text_hex.specs.Hex.{hex, hex_digits, hex_byte}

-- a word, high byte first
abbrev pub high_first : ℕ → List ℕ
high_first w = hex_digits 4 w

-- a word, low byte first: 1234h is `3412`
unfoldable pub low_first : ℕ → List ℕ
low_first w = hex_byte (w % 256) ++ hex_byte (w / 256)

-- and the word that four characters say so
unfoldable pub low_first_word : List ℕ → Number
low_first_word s = onward (hex 2 s) (λ low. onward (later 2 (hex 2 (drop 2 s))) (λ high. Value (low + 256 * high)))
