-- Laws of tests in a row: which of them decides, whatever is answered. Assumes nothing.
use Prim.Native.Nat.{ℕ}
use mathlib.Core.Bool.{Bool, true, false}
use mathlib.Core.List.{List, [], ◌∷◌, ◌++◌}
use mathlib.Core.Path.{◌≡◌, refl, ap}
use native.Mathlib.Omega.{arith}
use Rattle.rules.specs.Choice.{pick}
use Rattle.rules.specs.Tests.{Test, ◌unless◌, first}
use Rattle.rules.specs.Given.{gives, refused}

-- two rows, one after the other
pub first-append {ℓ} : {A : Type ℓ} (f : ℕ → A) (ts us : List Test) (a : A) → first f (ts ++ us) a ≡ first f ts (first f us a)
first-append f [] us a = refl
first-append f ((k unless t) ∷ ts) us a = ap (λ x. pick t x (f k)) (first-append f ts us a)

-- a test of the row fails: its number decides
pub first-refused {ℓ} : {A : Type ℓ} (ts : List Test) (v k : ℕ) → first refused ts (gives v) ≡ refused k → (f : ℕ → A) (a : A) → first f ts a ≡ f k
first-refused [] v k e f a = let z : ◌≡◌ {A = ℕ} 0 1 = cc in absurd (omega arith)
first-refused ((j unless true) ∷ ts) v k e f a = first-refused ts v k e f a
first-refused ((j unless false) ∷ ts) v k e f a = let z : j ≡ k = cc in ap f z

-- none fails: the answer stands
pub first-passed {ℓ} : {A : Type ℓ} (ts : List Test) (v w : ℕ) → first refused ts (gives v) ≡ gives w → (f : ℕ → A) (a : A) → first f ts a ≡ a
first-passed [] v w e f a = refl
first-passed ((j unless true) ∷ ts) v w e f a = first-passed ts v w e f a
first-passed ((j unless false) ∷ ts) v w e f a = let z : ◌≡◌ {A = ℕ} 0 1 = cc in absurd (omega arith)

-- and each of them held
pub passed : (k : ℕ) (t : Bool) (ts : List Test) (v w : ℕ) → first refused ((k unless t) ∷ ts) (gives v) ≡ gives w → (t ≡ true) × (first refused ts (gives v) ≡ gives w)
passed k true ts v w e = (refl, e)
passed k false ts v w e = let z : ◌≡◌ {A = ℕ} 0 1 = cc in absurd (omega arith)
