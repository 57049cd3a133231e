-- Writing into a room that the caller lends. Assumes nothing.
use Rattle.std.specs.Prelude.{ℕ, ◌+◌, ◌≡◌, List, [], ◌∷◌, ◌++◌, length, take, drop}

-- xs with ys written from index at on
unfoldable pub overwrite : List ℕ → ℕ → List ℕ → List ℕ
overwrite xs at ys = take at xs ++ ys ++ drop (at + length ys) xs

-- the texts of a list, one after the other
unfoldable pub each : {A : Type 0} → (A → List ℕ) → List A → List ℕ
each g [] = []
each g (x ∷ xs) = g x ++ each g xs

-- a message of r bytes stands in a room from index at on, and the rest is as it was
pub record Put (room₀ : List ℕ) (at : ℕ) (message : List ℕ) (r : ℕ) (room₁ : List ℕ) : Type 0 where
  pub size : r ≡ length message
  pub room : room₁ ≡ overwrite room₀ at message
