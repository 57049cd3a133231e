-- Choices by a test, in which every definition of the engine is written. Assumes nothing.
use Rattle.std.specs.Prelude.{ℕ, suc, List, [], ◌∷◌, Bool, true, false, eqb, leb}

-- the first where the test holds, and else the second
abbrev pub pick {ℓ} : {A : Type ℓ} → Bool → A → A → A
pick true a b = a
pick false a b = b

abbrev pub both : Bool → Bool → Bool
both true b = b
both false b = false

abbrev pub either : Bool → Bool → Bool
either true b = true
either false b = b

-- one of a list has it
unfoldable pub some {ℓ} : {A : Type ℓ} → (A → Bool) → List A → Bool
some p [] = false
some p (x ∷ xs) = either (p x) (some p xs)

-- lo ≤ x ≤ hi
unfoldable pub between : ℕ → ℕ → ℕ → Bool
between lo hi x = both (leb lo x) (leb x hi)

-- every element is from lo to hi
unfoldable pub all_between : ℕ → ℕ → List ℕ → Bool
all_between lo hi [] = true
all_between lo hi (x ∷ xs) = both (between lo hi x) (all_between lo hi xs)

-- as many elements, and each the same as the one in its place
unfoldable pub same_bytes : List ℕ → List ℕ → Bool
same_bytes [] [] = true
same_bytes [] (y ∷ ys) = false
same_bytes (x ∷ xs) [] = false
same_bytes (x ∷ xs) (y ∷ ys) = both (eqb x y) (same_bytes xs ys)

-- how many elements stand before the first that a test doesn't hold of; all of them where it holds of each
unfoldable pub first_not : (ℕ → Bool) → List ℕ → ℕ
first_not p [] = 0
first_not p (x ∷ xs) = pick (p x) (suc (first_not p xs)) 0
