-- The CRC-16 of a frame, and when a frame that ends in it is right: reflected polynomial A001h, start FFFFh (RULES K7; document 001, section 5-3).
-- Assumes nothing.
use Rattle.std.specs.Prelude.{Bool, List, [], ◌∷◌, ℕ, zero, suc, ◌*◌, ◌/◌, ◌%◌}
use Rattle.std.specs.Int.Bits.{bit_xor}
use Rattle.checks_shared.specs.Fold.{fold}
use Rattle.checks_shared.specs.Right.{closed_by}

-- the register after its lowest bit has left it: half, and A001h comes in where that bit was one
unfoldable pub shifted : ℕ → ℕ
shifted r = bit_xor (r / 2) (r % 2 * 0xA001)

-- n shifts
unfoldable pub shifts : ℕ → ℕ → ℕ
shifts zero r = r
shifts (suc n) r = shifts n (shifted r)

-- a byte is xored in, and eight bits leave
abbrev pub take_byte : ℕ → ℕ → ℕ
take_byte r b = shifts 8 (bit_xor r b)

abbrev pub crc_of : List ℕ → ℕ
crc_of bs = fold take_byte 0xFFFF bs

-- the CRC as a frame carries it: low byte first
abbrev pub crc_bytes : List ℕ → List ℕ
crc_bytes bs = crc_of bs % 256 ∷ crc_of bs / 256 ∷ []

-- RTU: the CRC of all before it, low byte first
abbrev pub right_crc : List ℕ → Bool
right_crc = closed_by crc_bytes
