-- Damage on the line, and what the checks show of it. Each statement is proved in proofs/Shows. Assumes nothing.
use Rattle.std.specs.Prelude.{true, false, List, [], ◌∷◌, ◌++◌, ◌≢◌, ◌≡◌, ℕ, ◌+◌, ◌-◌, ◌%◌, ◌≤◌, ◌<◌, length, get_or, take}
use Rattle.checks_shared.specs.Line.{Bytes, bit_at, flipped}
use Rattle.checks_crc.specs.Crc.{right_crc}
use Rattle.checks_xor.specs.Xor.{right_xor}
use Rattle.checks_lrc.specs.Lrc.{right_lrc}

-- bits flipped between f and g: one, two or three; or any odd number; or any that lie within 16 bits in a row
pub data Damage (f g : List ℕ) : Type 0 where
  few : 0 < flipped f g → flipped f g ≤ 3 → Damage f g
  odd : flipped f g % 2 ≡ 1 → Damage f g
  burst : (p : ℕ) → ((k : ℕ) → bit_at f k ≢ bit_at g k → (p ≤ k) × (k < p + 16)) → 0 < flipped f g → Damage f g

-- one character changed: f and g are the same before it and after it
pub record OneChanged (f g : List ℕ) : Type 0 where
  pub before : List ℕ
  pub after : List ℕ
  pub was : ℕ
  pub is : ℕ
  pub differs : was ≢ is
  pub sent : f ≡ before ++ (was ∷ after)
  pub received : g ≡ before ++ (is ∷ after)

-- a right RTU frame of at most 256 bytes is not right once the line has damaged it
abbrev pub CrcShowsDamage : Type 0
CrcShowsDamage =
    (f g : List ℕ) → Bytes f → Bytes g → length f ≡ length g → length f ≤ 256 → Damage f g → right_crc f ≡ true → right_crc g ≡ false

-- two right frames of at most 256 bytes are the same, or differ in at least four bits
abbrev pub FourToPass : Type 0
FourToPass =
    (f g : List ℕ) → Bytes f → Bytes g → length f ≡ length g → length f ≤ 256 → right_crc f ≡ true → right_crc g ≡ true → f ≢ g → 4 ≤ flipped f g

-- four flipped bits, within 17, can pass
pub record FourBitsPass (sent received : List ℕ) (first : ℕ) : Type 0 where
  pub bytes : Bytes sent × Bytes received
  pub long : length sent ≡ length received
  pub four : flipped sent received ≡ 4
  pub within : (k : ℕ) → bit_at sent k ≢ bit_at received k → (first ≤ k) × (k < first + 17)
  pub both_right : (right_crc sent ≡ true) × (right_crc received ≡ true)

-- station 1 is told to write 1 to register 400002, and hears 2: bits 40, 41, 54 and 56 are flipped
abbrev pub write_one : List ℕ
write_one = 0x01 ∷ 0x06 ∷ 0x00 ∷ 0x01 ∷ 0x00 ∷ 0x01 ∷ 0x19 ∷ 0xCA ∷ []

abbrev pub write_two : List ℕ
write_two = 0x01 ∷ 0x06 ∷ 0x00 ∷ 0x01 ∷ 0x00 ∷ 0x02 ∷ 0x59 ∷ 0xCB ∷ []

-- one changed character and the exclusive or's check is wrong
abbrev pub XorShowsChange : Type 0
XorShowsChange = (f g : List ℕ) → Bytes f → Bytes g → OneChanged f g → right_xor f ≡ true → right_xor g ≡ false

-- the same of a text whose check stands before a closing character, where that is as before
abbrev pub TextShowsChange : Type 0
TextShowsChange =
    (f g : List ℕ) → Bytes f → Bytes g → OneChanged f g → get_or f (length f - 1) 0 ≡ get_or g (length g - 1) 0
    → right_xor (take (length f - 1) f) ≡ true → right_xor (take (length g - 1) g) ≡ false

-- one changed byte and the sum's check is wrong
abbrev pub SumShowsChange : Type 0
SumShowsChange = (f g : List ℕ) → Bytes f → Bytes g → OneChanged f g → right_lrc f ≡ true → right_lrc g ≡ false
