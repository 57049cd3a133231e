-- The worked lines of the report (RULES Q8), and each way to be bad. Proved in proofs/Worked. Assumes nothing.
use Rattle.std.specs.Prelude.{List, [], ◌∷◌, ◌++◌, ◌≡◌, ℕ, take, replicate, Ok}
use Rattle.theorems_damage.specs.Damage.{write_one, write_two}
use Rattle.noise_report.specs.Records.{pair_of, these, bad, at_most, reading}
use Rattle.noise_report.specs.Numbers.{numbers, outcome}

-- the frame of RULES W11
abbrev pub frame : List ℕ
frame = 0x01 ∷ 0x08 ∷ 0x00 ∷ 0x0C ∷ 0x00 ∷ 0x00 ∷ 0x20 ∷ 0x08 ∷ []

-- it was sent, and arrived as it was
abbrev pub clean : List ℕ
clean = 0 ∷ 8 ∷ (frame ++ frame)

-- the least damage that passes, of RULES D8
abbrev pub passes : List ℕ
passes = 0 ∷ 8 ∷ (write_one ++ write_two)

pub record Worked : Type 0 where
  pub line : outcome (reading clean) ≡ Ok (numbers 1 0 0 0 0)
  pub four-bits : outcome (reading (clean ++ passes)) ≡ Ok (numbers 2 0 4 0 1)
  pub empty : outcome (reading []) ≡ Ok (numbers 0 0 0 0 0)
  -- the sent frame is wrong: its flipped bits are not counted
  pub faulty : outcome (these (pair_of (replicate 4 0) (replicate 4 0xFF) ∷ [])) ≡ Ok (numbers 1 1 0 0 0)
  -- the received one is
  pub refused : outcome (these (pair_of frame (replicate 8 0) ∷ [])) ≡ Ok (numbers 1 0 6 1 0)
  pub ends-inside : reading (take 17 clean) ≡ bad
  pub three : reading (0 ∷ 3 ∷ replicate 6 0) ≡ bad
  pub too_long : reading (1 ∷ 1 ∷ replicate 514 0) ≡ bad
  -- a record too many, where one is allowed
  pub too_many : at_most 1 (clean ++ clean) ≡ bad
