-- A turn of a walk: along runs, at what the code has for the next place, and along any list that is tested from the front. Assumes nothing.
use mathlib.Core.Path.{◌≡◌, ap, ap₂, sym, ◌∙◌}
use mathlib.Core.Bool.{Bool, true, false}
use mathlib.Core.List.{List, [], ◌∷◌}
use Prim.Native.Nat.{ℕ, ◌<◌}
use lib.ListN.{length}
use borrow.Author.Tests.{eq-eqb, ne_eqb}
use Rattle.rules.specs.Choice.{either, some}
use Rattle.catalogue_format.specs.declared.Run.{Run}
use Rattle.catalogue_format.specs.Format.{tag_of, after_of, run_of}
use Rattle.catalogue_files.specs.Refusals.{some_pair}
use Rattle.catalogue_files.specs.Walks.{runs_in}
use Rattle.catalogue_files.proofs.Said.{next-run}

pub run_here : (s t : List ℕ) (r : Run) → 0 < length s → tag_of s ≡ 2 → t ≡ after_of s → r ≡ run_of s → runs_in s ≡ r ∷ runs_in t
run_here s t r h g e q = next-run s h ∙ rw (eq-eqb (tag_of s) 2 g) (ap₂ (λ (u : List ℕ) (p : Run). p ∷ runs_in u) (sym e) (sym q))

pub run_past : (s t : List ℕ) → 0 < length s → (tag_of s ≡ 2 → ⊥) → t ≡ after_of s → runs_in t ≡ runs_in s
run_past s t h g e = ap runs_in e ∙ sym (next-run s h ∙ rw (ne_eqb (tag_of s) 2 g))

-- one has it: this, a later one, or none
module _ {A : Type 0} (p : A → Bool) (xs : List A) where
  pub some_here : (x : A) (ys : List A) → xs ≡ x ∷ ys → p x ≡ true → true ≡ some p xs
  unfolding some
  some_here x ys e h = sym (ap (some p) e ∙ ap (λ (t : Bool). either t (some p ys)) h)

  pub some_later : (x : A) (ys : List A) → xs ≡ x ∷ ys → p x ≡ false → some p ys ≡ some p xs
  unfolding some
  some_later x ys e h = sym (ap (some p) e ∙ ap (λ (t : Bool). either t (some p ys)) h)

  pub some_none : xs ≡ [] → false ≡ some p xs
  unfolding some
  some_none e = sym (ap (some p) e)

-- one has it with a later one: this, a later one, or none
module _ {A : Type 0} (p : A → A → Bool) (xs : List A) where
  pub pair_here : (x : A) (ys : List A) → xs ≡ x ∷ ys → some (p x) ys ≡ true → true ≡ some_pair p xs
  unfolding some_pair
  pair_here x ys e h = sym (ap (some_pair p) e ∙ ap (λ (t : Bool). either t (some_pair p ys)) h)

  pub pair_later : (x : A) (ys : List A) → xs ≡ x ∷ ys → some (p x) ys ≡ false → some_pair p ys ≡ some_pair p xs
  unfolding some_pair
  pair_later x ys e h = sym (ap (some_pair p) e ∙ ap (λ (t : Bool). either t (some_pair p ys)) h)

  pub pair_none : xs ≡ [] → false ≡ some_pair p xs
  unfolding some_pair
  pair_none e = sym (ap (some_pair p) e)
