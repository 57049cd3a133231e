-- What holds of a pair's reader and writer; `mag` of a number from 0 on is that number, and of one below zero its distance from -1.
-- Proved in proofs/ThereAndBack and proofs/WorkedPairs. Assumes nothing.
use Rattle.std.specs.Prelude.{ℕ, ◌/◌, ◌%◌, ◌<◌, true, false, ◌≡◌, ℤ, pos, negsuc}
use Rattle.std.specs.Int.Signed.{mag}
use Rattle.table_registers.specs.Profile.{joined, within}
use Rattle.host_pairs.specs.Pairs.{pair_value, bits, most, is_writable, words, refused, pair_words}

-- ---- the reader

-- the number has the 32 bits of the words: no two pairs are one number
abbrev pub BitsKept : Type 0
BitsKept = (low high : ℕ) → low < 65536 → high < 65536 → bits (pair_value low high) ≡ joined low high

-- and every number of 32 bits is a pair's
abbrev pub EveryNumber : Type 0
EveryNumber = (z : ℤ) → mag z < 2147483648 → pair_value (bits z % 65536) (bits z / 65536) ≡ z

-- ---- the writer

-- what is written for a number reads as that number, and each half is a word
abbrev pub ReadBack : Type 0
ReadBack = (z : ℤ) (low high : ℕ) → pair_words z ≡ words low high → (pair_value low high ≡ z) × (low < 65536) × (high < 65536)

-- what was read is written with the words that it was read from, where the profile takes them
abbrev pub WrittenBack : Type 0
WrittenBack = (low high : ℕ) → low < 65536 → high < 65536 → within most (joined low high) ≡ true
    → pair_words (pair_value low high) ≡ words low high

-- the writer takes what two words hold just where the profile takes the two words
abbrev pub AsTheProfile : Type 0
AsTheProfile = (low high : ℕ) → low < 65536 → high < 65536 → is_writable (pair_value low high) ≡ within most (joined low high)

-- and refuses with 14 just outside
pub record RefusedOutside (z : ℤ) : Type 0 where
  pub inside : is_writable z ≡ true → (low : ℕ) × (high : ℕ) × (pair_words z ≡ words low high)
  pub outside : is_writable z ≡ false → pair_words z ≡ refused 14

-- ---- worked

-- zero, both ends of the 32 bits, -1, and both ends of what is written
pub record ReadEnds : Type 0 where
  pub zero_is : pair_value 0 0 ≡ pos 0
  pub greatest : pair_value 0xFFFF 0x7FFF ≡ pos 2147483647
  pub least : pair_value 0x0000 0x8000 ≡ negsuc 2147483647
  pub minus_one : pair_value 0xFFFF 0xFFFF ≡ negsuc 0
  pub most : pair_value 0x7EF0 0x000E ≡ pos 950000
  pub minus-most : pair_value 0x8110 0xFFF1 ≡ negsuc 949999

-- zero, -1, both ends of what is written, one past each, and both ends of the 32 bits
pub record WrittenEnds : Type 0 where
  pub zero_is : pair_words (pos 0) ≡ words 0 0
  pub minus_one : pair_words (negsuc 0) ≡ words 0xFFFF 0xFFFF
  pub most : pair_words (pos 950000) ≡ words 0x7EF0 0x000E
  pub minus-most : pair_words (negsuc 949999) ≡ words 0x8110 0xFFF1
  pub one_more : pair_words (pos 950001) ≡ refused 14
  pub one_less : pair_words (negsuc 950000) ≡ refused 14
  pub greatest : pair_words (pos 2147483647) ≡ refused 14
  pub least : pair_words (negsuc 2147483647) ≡ refused 14
