-- A distance has five digits. Assumes nothing.
use mathlib.Core.Path.{◌≡◌}
use mathlib.Core.List.{List, [], ◌∷◌}
use mathlib.Core.Bool.{true, false}
use Prim.Native.Nat.{ℕ, ◌+◌, ◌<◌}
use native.Mathlib.Omega.{arith}
use lib.Dec.{eqb}
use lib.ListN.{length, get_or}
use Rattle.rules.specs.Tests.{Test, first, ◌unless◌}
use Rattle.rules.specs.Characters.{digit0, letter_d}
use Rattle.text_digits.specs.Digits.{or_place, decimal}
use Rattle.text_digits.specs.declared.Number.{Number}
use Rattle.text_digits.specs.declared.Number.TheVariants.{Value, NoDigitAt}
use Rattle.text_digits.proofs.Values.{decimal-digits}
use Rattle.text_digits.proofs.Running.{running-below}
use Rattle.laser.specs.Frame.{good_shape, good_check, data_of, Told, measures, unasked, declined, distance_at, distance_in, distance_of}
use Rattle.laser.specs.Statements.{SmallDistance}

-- a value is told where no test refuses
first-tells : (refusal : ℕ → Told) → ((k v : ℕ) → refusal k ≡ measures v → ⊥) → (ts : List Test) (g : Told) (v : ℕ) → first refusal ts g ≡ measures v → g ≡ measures v
first-tells refusal none [] g v e = e
first-tells refusal none ((k unless true) ∷ ts) g v e = first-tells refusal none ts g v e
first-tells refusal none ((k unless false) ∷ ts) g v e = absurd (none k v e)

no_place : (k v : ℕ) → unasked k ≡ measures v → ⊥
no_place k v e = let z : ◌≡◌ {A = ℕ} 0 1 = cc in omega arith

no_number : (k v : ℕ) → declined k ≡ measures v → ⊥
no_number k v e = let z : ◌≡◌ {A = ℕ} 0 1 = cc in omega arith

five : (m : Number) (ts : List Test) (v : ℕ) → or_place m (λ n. first unasked ts (measures n)) (λ p. unasked (5 + p)) ≡ measures v → m ≡ Value v
five (Value n) ts v e = let w : measures n ≡ measures v = first-tells unasked no_place ts (measures n) v e in cc
five (NoDigitAt p) ts v e = absurd (no_place (5 + p) v e)

small-in : (end a b : ℕ) (d : List ℕ) (v : ℕ) → distance_in end a b d ≡ measures v → v < 100000
unfolding distance_in distance_at
small-in end a b d v e =
    let known = first-tells unasked no_place ((end unless eqb a digit0) ∷ (end unless eqb b letter_d) ∷ (end unless eqb (length d) 6) ∷ []) _ v e in
    omega (arith, running-below decimal-digits 5 0 v d (five (decimal 5 d) ((10 unless eqb (get_or d 5 0) 0) ∷ []) v known))

pub small-distance : SmallDistance
unfolding distance_of
small-distance f v e =
    small-in (length f) (get_or f 3 0) (get_or f 4 0) (data_of f) v (first-tells declined no_number ((10 unless good_shape f) ∷ (11 unless good_check f) ∷ []) _ v e)
