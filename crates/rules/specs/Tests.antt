-- Tests in a row, each with the number that is given where it fails: the way in which the rules write every order. Assumes nothing.
use Rattle.std.specs.Prelude.{ℕ, Bool, List, [], ◌∷◌}
use Rattle.rules.specs.Choice.{pick}

-- a number, given unless a test holds
pub data Test : Type 0 where
  ◌unless◌ : ℕ → Bool → Test

infix 60 ◌unless◌
-- the refusal of the first test that fails, or the answer where none does
abbrev pub first {ℓ} : {A : Type ℓ} → (ℕ → A) → List Test → A → A
first refusal [] answer = answer
first refusal ((k unless t) ∷ ts) answer = pick t (first refusal ts answer) (refusal k)
