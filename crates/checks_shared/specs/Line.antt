-- A frame as the line carries it (RULES D1): bytes in order, the lowest bit of each first. Assumes nothing.
use Rattle.std.specs.Prelude.{List, [], ◌∷◌, ℕ, zero, suc, ◌+◌, ◌*◌, ◌/◌, ◌%◌, ◌^◌, ◌<◌, length, get_or}
use Rattle.std.specs.Int.Bits.{differ}

-- every element is a byte
unfoldable pub Bytes : List ℕ → Type 0
Bytes [] = Unit {0}
Bytes (b ∷ bs) = (b < 256) × Bytes bs

-- bit k of a frame: bit k % 8 of byte k / 8
unfoldable pub bit_at : List ℕ → ℕ → ℕ
bit_at f k = get_or f (k / 8) 0 / 2 ^ (k % 8) % 2

-- g 0 + g 1 + … + g (n - 1)
unfoldable pub total : ℕ → (ℕ → ℕ) → ℕ
total zero g = 0
total (suc n) g = g 0 + total n (λ k. g (suc k))

-- how many bits of two frames of one length differ; `differ` of two digits is 1 where they differ and else 0
unfoldable pub flipped : List ℕ → List ℕ → ℕ
flipped f g = total (8 * length f) (λ k. differ (bit_at f k) (bit_at g k))
