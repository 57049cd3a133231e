-- Lists of numbers from lo to hi: their parts, and what is made of them. Assumes nothing.
use mathlib.Core.Path.{◌≡◌, refl, ap₂}
use mathlib.Core.Bool.{true}
use mathlib.Core.List.{List, [], ◌∷◌, ◌++◌}
use Prim.Native.Nat.{ℕ, zero, suc, ◌≤◌, zero-le}
use lib.ListN.{take, drop, get_or, replicate}
use Rattle.rules.specs.Choice.{both, between, all_between}
use Rattle.rules.proofs.Choose.{both_left, both_right, in-range}

module _ (lo hi : ℕ) where
  pub all_append : (xs ys : List ℕ) → all_between lo hi xs ≡ true → all_between lo hi ys ≡ true → all_between lo hi (xs ++ ys) ≡ true
  unfolding all_between
  all_append [] ys p q = q
  all_append (x ∷ xs) ys p q = ap₂ both (both_left (between lo hi x) _ p) (all_append xs ys (both_right (between lo hi x) _ p) q)

  pub all_take : (n : ℕ) (xs : List ℕ) → all_between lo hi xs ≡ true → all_between lo hi (take n xs) ≡ true
  unfolding all_between
  all_take zero xs p = refl
  all_take (suc n) [] p = refl
  all_take (suc n) (x ∷ xs) p = ap₂ both (both_left (between lo hi x) _ p) (all_take n xs (both_right (between lo hi x) _ p))

  pub all_drop : (n : ℕ) (xs : List ℕ) → all_between lo hi xs ≡ true → all_between lo hi (drop n xs) ≡ true
  unfolding all_between
  all_drop zero xs p = p
  all_drop (suc n) [] p = refl
  all_drop (suc n) (x ∷ xs) p = all_drop n xs (both_right (between lo hi x) _ p)

  pub all_same : (n v : ℕ) → between lo hi v ≡ true → all_between lo hi (replicate n v) ≡ true
  unfolding all_between
  all_same zero v h = refl
  all_same (suc n) v h = ap₂ both h (all_same n v h)

-- past the end stands 0
pub all-at : (hi : ℕ) (xs : List ℕ) (i : ℕ) → all_between 0 hi xs ≡ true → get_or xs i 0 ≤ hi
unfolding all_between
all-at hi [] i p = zero-le
all-at hi (x ∷ xs) zero p = (in-range 0 hi x (both_left (between 0 hi x) _ p)).1
all-at hi (x ∷ xs) (suc i) p = all-at hi xs i (both_right (between 0 hi x) _ p)
