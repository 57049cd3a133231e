-- In how many bits two frames differ, by position; 6 where their lengths differ or are over 256 (RULES D2). Assumes nothing.
use Rattle.std.specs.Prelude.{List, [], ◌∷◌, ℕ, eqb, leb, length}
use Rattle.rules.specs.Tests.{first, ◌unless◌}
use Rattle.rules.specs.Given.{Given, gives, refused, refusal}
use Rattle.checks_shared.specs.Line.{flipped}
use Rattle.checks_bit_count.specs.declared.BitCount.{BitCount}
use Rattle.checks_bit_count.specs.declared.BitCount.TheVariants.{Bits, Refused}

abbrev pub given : BitCount → Given
given (Bits n) = gives n
given (Refused r) = refusal r

abbrev pub bit_count : List ℕ → List ℕ → Given
bit_count a b = first refused ((6 unless eqb (length a) (length b)) ∷ (6 unless leb (length a) 256) ∷ []) (gives (flipped a b))
