-- Two words as one signed number of 32 bits, and back (RULES N15). Assumes nothing.
use Rattle.std.specs.Prelude.{ℕ, ◌-◌, ◌/◌, ◌%◌, Bool, [], ◌∷◌, leb, ltb, ℤ, pos, negsuc}
use Rattle.rules.specs.Choice.{pick}
use Rattle.rules.specs.Tests.{first, ◌unless◌}
use Rattle.table_registers.specs.Profile.{joined}
use Rattle.host_pairs.specs.declared.Halves.{Halves}
use Rattle.host_pairs.specs.declared.Halves.TheVariants as halves

-- ---- the reader

-- 32 bits in two's complement: from 2^31 on they are a number below zero, and the greatest are -1
abbrev pub signed : ℕ → ℤ
signed v = pick (ltb v 2147483648) (pos v) (negsuc (4294967295 - v))

unfoldable pub pair_value : ℕ → ℕ → ℤ
pair_value low high = signed (joined low high)

-- ---- the writer

-- a number as 32 bits: -1 is the greatest
abbrev pub bits : ℤ → ℕ
bits (pos n) = n
bits (negsuc k) = 4294967295 - k

-- the greatest number that is written; the least is as far below zero
abbrev pub most : ℕ
most = 950000

abbrev pub is_writable : ℤ → Bool
is_writable (pos n) = leb n most
is_writable (negsuc k) = ltb k most

-- the two words of a number, the lower first; or a refusal's number
pub data Split : Type 0 where
  words : (low high : ℕ) → Split
  refused : ℕ → Split

-- 14 outside -950,000 to 950,000
unfoldable pub pair_words : ℤ → Split
pair_words z = first refused ((14 unless is_writable z) ∷ []) (words (bits z % 65536) (bits z / 65536))

abbrev pub given : Halves → Split
given (halves.Words low high) = words low high
given (halves.Refused r) = refused r.0
