-- The LRC of some bytes, and when bytes that end in it are right (RULES K6). Assumes nothing.
use Rattle.std.specs.Prelude.{Bool, List, ℕ, ◌+◌, ◌-◌, ◌%◌, eqb}
use Rattle.checks_shared.specs.Fold.{fold}

-- the sum of all bytes modulo 256
abbrev pub sum_of : List ℕ → ℕ
sum_of bs = fold (λ s b. (s + b) % 256) 0 bs

-- the LRC: the two's complement of the sum
abbrev pub lrc_of : List ℕ → ℕ
lrc_of bs = (256 - sum_of bs) % 256

-- Modbus ASCII, as bytes: all add to 0 modulo 256
abbrev pub right_lrc : List ℕ → Bool
right_lrc f = eqb (sum_of f) 0
