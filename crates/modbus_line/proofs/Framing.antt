-- The station, a body and a check of both, written one after the other, are one message. Assumes nothing.
use mathlib.Core.Path.{◌≡◌, refl, ap, ◌∙◌}
use mathlib.Core.List.{List, [], ◌∷◌, ◌++◌}
use Prim.Native.Nat.{ℕ, suc, ◌+◌}
use native.Mathlib.Numerals.{one-add}
use lib.ListN.{length, take}
use Rattle.text_rooms.specs.Room.{overwrite}
use Rattle.text_rooms.proofs.Overwrite.{overwrite-next, overwrite-front}

module _ (check : List ℕ → List ℕ) (room m : List ℕ) (own n : ℕ) (room₁ room₂ : List ℕ) (p : room₁ ≡ overwrite room 0 (own ∷ [])) (size : n ≡ length m) (q : room₂ ≡ overwrite room₁ 1 m) where
  long : 1 + n ≡ length (own ∷ m)
  long = one-add n ∙ ap suc size

  stands : room₂ ≡ overwrite room 0 (own ∷ m)
  stands = q ∙ overwrite-next room (own ∷ []) m room₁ 1 p refl

  -- what the check is taken of
  pub seen : take (1 + n) room₂ ≡ own ∷ m
  seen = ap (λ (k : ℕ). take k room₂) long ∙ ap (take (length (own ∷ m))) stands ∙ overwrite-front room (own ∷ m)

  pub framed-by : overwrite room₂ (1 + n) (check (take (1 + n) room₂)) ≡ overwrite room 0 ((own ∷ m) ++ check (own ∷ m))
  framed-by = ap (λ (l : List ℕ). overwrite room₂ (1 + n) (check l)) seen ∙ overwrite-next room (own ∷ m) (check (own ∷ m)) room₂ (1 + n) stands long
