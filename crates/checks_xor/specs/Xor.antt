-- The exclusive or of a text, and when a text that ends in it is right (RULES K5). Assumes nothing.
use Rattle.std.specs.Prelude.{Bool, List, [], ◌∷◌, ◌++◌, ℕ}
use Rattle.std.specs.Int.Bits.{bit_xor}
use Rattle.text_hex.specs.Hex.{hex_byte}
use Rattle.checks_shared.specs.Fold.{fold}
use Rattle.checks_shared.specs.Right.{closed_by}

-- the exclusive or of all bytes
abbrev pub xor_of : List ℕ → ℕ
xor_of bs = fold bit_xor 0 bs

-- the exclusive or as a text carries it: two upper-case hex characters
abbrev pub xor_bytes : List ℕ → List ℕ
xor_bytes bs = hex_byte (xor_of bs)

-- what closes a text: its check, and a last character
abbrev pub closing : List ℕ → ℕ → List ℕ
closing front last = xor_bytes front ++ (last ∷ [])

-- MEWTOCOL and laser head, without the closing character
abbrev pub right_xor : List ℕ → Bool
right_xor = closed_by xor_bytes
