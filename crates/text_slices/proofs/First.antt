-- The first element that a test doesn't hold of: as a loop looks for it, and what is known of it. Assumes nothing.
use mathlib.Core.Bool.{Bool, true, false}
use mathlib.Core.List.{List, [], ◌∷◌}
use mathlib.Core.Path.{◌≡◌, refl, sym, ap, ◌∙◌}
use Prim.Native.Nat.{ℕ, zero, suc, ◌+◌, ◌≤◌, ◌<◌, zero-le, suc-le-suc}
use native.Mathlib.Nat.{le_of_suc-le-suc, not-suc-le-zero}
use lib.ListN.{length, drop, get_or}
use Rattle.rules.specs.Choice.{pick, both, first_not}
use Rattle.rules.proofs.Choose.{pick_yes, pick_no, both_left, both_right}
use Rattle.text_slices.proofs.Walk.{step, stop}

-- ---- as a loop goes

pub first_on : (p : ℕ → Bool) (s : List ℕ) (i : ℕ) → i < length s → p (get_or s i 0) ≡ true → first_not p (drop i s) ≡ suc (first_not p (drop (i + 1) s))
unfolding first_not
first_on p s i h e = step (first_not p) s i h ∙ pick_yes _ _ _ e

pub first-here : (p : ℕ → Bool) (s : List ℕ) (i : ℕ) → i < length s → p (get_or s i 0) ≡ false → first_not p (drop i s) ≡ 0
unfolding first_not
first-here p s i h e = step (first_not p) s i h ∙ pick_no _ _ _ e

pub first-end : (p : ℕ → Bool) (s : List ℕ) (i : ℕ) → length s ≤ i → first_not p (drop i s) ≡ 0
unfolding first_not
first-end p s i h = stop (first_not p) s i h

-- ---- what is known of it

-- an element, and what is known of those behind it
module _ (p : ℕ → Bool) (x : ℕ) (xs : List ℕ) where
  within : (b : Bool) → first_not p xs ≤ length xs → pick b (suc (first_not p xs)) 0 ≤ suc (length xs)
  within true h = suc-le-suc h
  within false h = zero-le

  before : (b : Bool) → p x ≡ b → ((i : ℕ) → i < first_not p xs → p (get_or xs i 0) ≡ true) → (i : ℕ) → i < pick b (suc (first_not p xs)) 0 → p (get_or (x ∷ xs) i 0) ≡ true
  before true e h zero k = e
  before true e h (suc i) k = h i (le_of_suc-le-suc k)
  before false e h i k = absurd (not-suc-le-zero k)

  fails : (b : Bool) → p x ≡ b → (first_not p xs < length xs → p (get_or xs (first_not p xs) 0) ≡ false)
      → pick b (suc (first_not p xs)) 0 < suc (length xs) → p (get_or (x ∷ xs) (pick b (suc (first_not p xs)) 0) 0) ≡ false
  fails true e h k = h (le_of_suc-le-suc k)
  fails false e h k = e

pub first-within : (p : ℕ → Bool) (s : List ℕ) → first_not p s ≤ length s
unfolding first_not
first-within p [] = zero-le
first-within p (x ∷ xs) = within p x xs (p x) (first-within p xs)

pub first-before : (p : ℕ → Bool) (s : List ℕ) (i : ℕ) → i < first_not p s → p (get_or s i 0) ≡ true
unfolding first_not
first-before p [] i h = absurd (not-suc-le-zero h)
first-before p (x ∷ xs) i h = before p x xs (p x) refl (first-before p xs) i h

pub first-fails : (p : ℕ → Bool) (s : List ℕ) → first_not p s < length s → p (get_or s (first_not p s) 0) ≡ false
unfolding first_not
first-fails p [] h = absurd (not-suc-le-zero h)
first-fails p (x ∷ xs) h = fails p x xs (p x) refl (first-fails p xs) h

-- where a test of every element holds, there is none
pub first-none : (all : List ℕ → Bool) (p : ℕ → Bool) → ((x : ℕ) (xs : List ℕ) → all (x ∷ xs) ≡ both (p x) (all xs)) → (s : List ℕ) → all s ≡ true → first_not p s ≡ length s
unfolding first_not
first-none all p each [] e = refl
first-none all p each (x ∷ xs) e =
    let t = sym (each x xs) ∙ e in
    pick_yes (p x) (suc (first_not p xs)) 0 (both_left (p x) (all xs) t) ∙ ap suc (first-none all p each xs (both_right (p x) _ t))
