-- Bits of words: cells, the word of a cell, one bit written, a mask (RULES N7, N11).
-- Assumes nothing.
use Rattle.std.specs.Prelude.{ℕ, zero, suc, ◌-◌, ◌/◌, ◌%◌, ◌^◌, List, [], ◌∷◌, map, Bool, true, false, eqb, get_or, set}
use Rattle.std.specs.Int.Bits.{bit_and, bit_or}

-- bit b of word k is cell 16 k + b
abbrev pub word_of : ℕ → ℕ
word_of c = c / 16

abbrev pub bit_of : ℕ → ℕ
bit_of c = c % 16

abbrev pub words_of : List ℕ → List ℕ
words_of cells = map word_of cells

-- what a cell holds; past the table 0
abbrev pub cell_at : List ℕ → ℕ → ℕ
cell_at words c = get_or words (word_of c) 0 / 2 ^ bit_of c % 2

-- a word with one bit set or cleared
unfoldable pub with_bit : ℕ → ℕ → Bool → ℕ
with_bit w b true = bit_or w (2 ^ b)
with_bit w b false = bit_and w (65535 - 2 ^ b)

-- the words with one cell written
abbrev pub put_cell : List ℕ → ℕ → Bool → List ℕ
put_cell words c on = set words (word_of c) (with_bit (get_or words (word_of c) 0) (bit_of c) on)

-- cells written left to right: one that is named twice keeps the last value
unfoldable pub put_cells : List ℕ → List ℕ → List Bool → List ℕ
put_cells words [] vs = words
put_cells words (c ∷ cs) [] = words
put_cells words (c ∷ cs) (v ∷ vs) = put_cells (put_cell words c v) cs vs

-- 16h: (word AND and-mask) OR (or-mask AND NOT and-mask)
unfoldable pub masked : ℕ → ℕ → ℕ → ℕ
masked w a o = bit_or (bit_and w a) (bit_and o (65535 - a))

-- bit i of a run of bytes, the lowest of each byte first
unfoldable pub bit_at : List ℕ → ℕ → Bool
bit_at bytes i = eqb (get_or bytes (i / 8) 0 / 2 ^ (i % 8) % 2) 1

-- n bits from bit i on
unfoldable pub bits_from : List ℕ → ℕ → ℕ → List Bool
bits_from bytes i zero = []
bits_from bytes i (suc n) = bit_at bytes i ∷ bits_from bytes (suc i) n

-- contact data: 1 sets, anything else clears
abbrev pub on_of : ℕ → Bool
on_of v = eqb v 1
