-- Tests in a row: what the code's answer to them says of the reading, and that all held where none failed. Assumes nothing.
use mathlib.Core.Path.{◌≡◌, refl}
use mathlib.Core.List.{List, [], ◌∷◌}
use mathlib.Core.Bool.{true, false}
use Prim.Native.Nat.{ℕ}
use native.Mathlib.Omega.{arith}
use Rattle.rules.specs.Tests.{Test, ◌unless◌, first}
use Rattle.mewtocol_requests.specs.Reading.{Reading, faulty}
use Rattle.mewtocol_steps.specs.Steps.{wrong, range}

unlike : (e x y : ℕ) {A : Type 0} → wrong e ≡ range x y → A
unlike e x y h = let z : ◌≡◌ {A = ℕ} 0 1 = cc in absurd (omega arith)

unlike' : (e x y : ℕ) {A : Type 0} → range x y ≡ wrong e → A
unlike' e x y h = let z : ◌≡◌ {A = ℕ} 0 1 = cc in absurd (omega arith)

-- every test of a row
abbrev pub Held : List Test → Type 0
Held [] = Unit
Held ((k unless t) ∷ ts) = (t ≡ true) × Held ts

-- where the answer is a start and an end, every test held, and they are those that were passed
pub held : (ts : List Test) (x y x' y' : ℕ) → first wrong ts (range x y) ≡ range x' y' → Held ts × (x' ≡ x) × (y' ≡ y)
held [] x y x' y' e = (tt, cc, cc)
held ((k unless true) ∷ ts) x y x' y' e = let h = held ts x y x' y' e in ((refl, h.0), h.1, h.2)
held ((k unless false) ∷ ts) x y x' y' e = unlike _ x' y' e

pub held_first : (ts : List Test) (o : Reading) → Held ts → first faulty ts o ≡ o
held_first [] o h = refl
held_first ((k unless true) ∷ ts) o h = held_first ts o h.1
held_first ((k unless false) ∷ ts) o h = let z : ◌≡◌ {A = ℕ} 0 1 = cc h.0 in absurd (omega arith)

pub failed-first : (ts : List Test) (x y : ℕ) (o : Reading) (e : ℕ) → first wrong ts (range x y) ≡ wrong e → first faulty ts o ≡ faulty e
failed-first [] x y o e h = unlike' e x y h
failed-first ((k unless true) ∷ ts) x y o e h = failed-first ts x y o e h
failed-first ((k unless false) ∷ ts) x y o e h = number_of h
  where
    number_of : wrong k ≡ wrong e → faulty k ≡ faulty e
    number_of p = cc
