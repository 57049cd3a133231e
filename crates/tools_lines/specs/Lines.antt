-- What the lines of a text are. Assumes nothing.
use Rattle.std.specs.Prelude.{ℕ, List, [], ◌∷◌, eqb}
use Rattle.rules.specs.Choice.{pick}

-- lines that begin with a byte more; where there are none, a line of it alone
unfoldable pub onto : ℕ → List (List ℕ) → List (List ℕ)
onto b [] = (b ∷ []) ∷ []
onto b (l ∷ ls) = (b ∷ l) ∷ ls

-- the lines of a text, without their line feeds; behind the last line feed a line stands only where a byte does
unfoldable pub lines : List ℕ → List (List ℕ)
lines [] = []
lines (b ∷ s) = pick (eqb b 10) ([] ∷ lines s) (onto b (lines s))
