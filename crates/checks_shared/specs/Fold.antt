-- Checks take one byte after the other. Assumes nothing.
use Rattle.std.specs.Prelude.{List, [], ◌∷◌, ℕ}

-- from r on, each byte in turn taken in by g
unfoldable pub fold : (ℕ → ℕ → ℕ) → ℕ → List ℕ → ℕ
fold g r [] = r
fold g r (b ∷ bs) = fold g (g r b) bs
