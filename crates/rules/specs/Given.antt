-- What a call gives back, in the numbers of the rules (RULES C1, C2). Assumes nothing.
use Rattle.std.specs.Prelude.{ℕ, ◌≡◌}
use Rattle.rules.specs.declared.Refusal.{Refusal}

-- a value, or a refusal's number
pub data Given : Type 0 where
  gives : ℕ → Given
  refused : ℕ → Given

-- what a refusal of the code says
abbrev pub refusal : Refusal → Given
refusal r = refused r.0

-- two answers that say the same are one
abbrev pub Once : {A B : Type 0} → (A → B) → Type 0
Once {A} {B} given = (x : B) (r s : A) → given r ≡ x → given s ≡ x → r ≡ s
