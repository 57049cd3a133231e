-- Two texts hold the same bytes where `==` says so. Assumes nothing.
use Rattle.std.proofs.Common.{◌≡◌, ℕ, List, [], ◌∷◌, Bool, true, false, ◌&&◌, eqb, refl}
use lib.Pointwise.{pointwise}
use Rattle.rules.specs.Choice.{both, same_bytes}

conjoined : (t : Bool) (b c : Bool) → b ≡ c → (t && b) ≡ both t c
conjoined true b c e = e
conjoined false b c e = refl

pub same_as_equal : (a b : List ℕ) → pointwise eqb a b ≡ same_bytes a b
unfolding same_bytes
same_as_equal [] [] = refl
same_as_equal [] (y ∷ ys) = refl
same_as_equal (x ∷ xs) [] = refl
same_as_equal (x ∷ xs) (y ∷ ys) = conjoined (eqb x y) _ _ (same_as_equal xs ys)
