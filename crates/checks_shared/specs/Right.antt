-- When a frame that ends in its check is right, whichever check it is (RULES K8). Assumes nothing.
use Rattle.std.specs.Prelude.{Bool, true, false, List, [], ◌∷◌, ℕ, ◌-◌, eqb, leb, length, take, drop}
use Rattle.rules.specs.Choice.{both}

-- the same elements in the same order
unfoldable pub same : List ℕ → List ℕ → Bool
same [] [] = true
same [] (y ∷ ys) = false
same (x ∷ xs) [] = false
same (x ∷ xs) (y ∷ ys) = both (eqb x y) (same xs ys)

-- the last two elements are the check of all before them
unfoldable pub closed_by : (List ℕ → List ℕ) → List ℕ → Bool
closed_by check f = both (leb 2 (length f)) (same (drop (length f - 2) f) (check (take (length f - 2) f)))
