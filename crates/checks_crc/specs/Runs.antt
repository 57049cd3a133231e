-- A run of the CRC along a frame, several bytes at a time, as the code goes. Assumes nothing.
use Rattle.std.specs.Prelude.{List, ◌≡◌, ℕ, zero, suc, ◌+◌, ◌*◌, ◌<◌, drop, get_or}
use Rattle.checks_shared.specs.Fold.{fold}
use Rattle.checks_crc.specs.Crc.{shifts, take_byte}

-- a table holds what every byte is once eight bits have left it
abbrev pub Tabled : List ℕ → Type 0
Tabled table = (k : ℕ) → k < 256 → get_or table k 0 ≡ shifts 8 k

-- n bytes of a frame from index i on as one number, low byte first
unfoldable pub low_first : ℕ → List ℕ → ℕ → ℕ
low_first zero f i = 0
low_first (suc n) f i = get_or f i 0 + 256 * low_first n f (i + 1)

-- from register r at index i of a frame, a register s at index j is reached: what is left makes one CRC of both
pub record Fed (f : List ℕ) (i r j s : ℕ) : Type 0 where
  pub small : s < 65536
  pub same : fold take_byte s (drop j f) ≡ fold take_byte r (drop i f)
