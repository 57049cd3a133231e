-- What an iterator along fields gives, told by its first place, and what `all` and `any` over any such iterator tell. Assumes nothing.
use mathlib.Core.Path.{◌≡◌, refl, ap, ap₂, sym, ◌∙◌}
use mathlib.Core.Bool.{Bool, true, false, ◌&&◌, ◌||◌}
use mathlib.Core.List.{List, [], ◌∷◌}
use Prim.Native.Nat.{ℕ, ◌<◌}
use lib.ListN.{length}
use native.Mathlib.Omega.{arith}
use borrow.Author.Tests.{eq-eqb, ne_eqb}
use denote.Param.Members.{Mut}
use Rattle.std.specs.Fn.{Called}
use Rattle.std.specs.Iterator.{YieldsFirstBy, ChecksAll, ChecksAny}
use Rattle.std.specs.List.{list_all, list_any}
use Rattle.std.proofs.lemmas.Iterator.Search.{all_from_yields_List, any_from_yields_List}
use Rattle.std.proofs.lemmas.Iterator.Consumers.{YieldsList-from_first}
use Rattle.rules.specs.Choice.{both, either, some}
use Rattle.catalogue_format.specs.Format.{tag_of, value_of, after_of}
use Rattle.catalogue_format.specs.Shapes.{siblings, into, places_in, groups_in, every}
use Rattle.catalogue_format.proofs.Walking.{next-sibling, no-sibling, next-place, no-place, next-group}

-- ---- a turn of a walk, at what the code has for the next place

pub field_then : (s t : List ℕ) → 0 < length s → t ≡ after_of s → siblings s ≡ s ∷ siblings t
field_then s t h e = next-sibling s h ∙ ap (λ (u : List ℕ). s ∷ siblings u) (sym e)

pub no_field : (s : List ℕ) → length s ≡ 0 → siblings s ≡ []
no_field s h = no-sibling s h

pub fewer_fields : (s t : List ℕ) → 0 < length s → t ≡ after_of s → length (siblings t) < length (siblings s)
fewer_fields s t h e = let z = ap length (field_then s t h e) in omega arith

pub place_then : (s t : List ℕ) → 0 < length s → t ≡ into s → places_in s ≡ s ∷ places_in t
place_then s t h e = next-place s h ∙ ap (λ (u : List ℕ). s ∷ places_in u) (sym e)

pub no_place : (s : List ℕ) → length s ≡ 0 → places_in s ≡ []
no_place s h = no-place s h

pub fewer_places : (s t : List ℕ) → 0 < length s → t ≡ into s → length (places_in t) < length (places_in s)
fewer_places s t h e = let z = ap length (place_then s t h e) in omega arith

pub group_here : (s t v : List ℕ) → 0 < length s → tag_of s ≡ 3 → t ≡ into s → v ≡ value_of s → groups_in s ≡ v ∷ groups_in t
group_here s t v h g e q = next-group s h ∙ rw (eq-eqb (tag_of s) 3 g) (ap₂ (λ (u w : List ℕ). w ∷ groups_in u) (sym e) (sym q))

pub group_past : (s t : List ℕ) → 0 < length s → (tag_of s ≡ 3 → ⊥) → t ≡ into s → groups_in t ≡ groups_in s
group_past s t h g e = ap groups_in e ∙ sym (next-group s h ∙ rw (ne_eqb (tag_of s) 3 g))

-- ---- the library's words and ours

every_turn : (t u v : Bool) → u ≡ v → (t && u) ≡ both t v
every_turn true u v e = e
every_turn false u v e = refl

every_of_all : {A : Type 0} (p : A → Bool) (xs : List A) → list_all p xs ≡ every p xs
unfolding every
every_of_all p [] = refl
every_of_all p (x ∷ xs) = every_turn (p x) _ _ (every_of_all p xs)

some_turn : (t u v : Bool) → u ≡ v → (t || u) ≡ either t v
some_turn true u v e = refl
some_turn false u v e = e

some_of_any : {A : Type 0} (p : A → Bool) (xs : List A) → list_any p xs ≡ some p xs
unfolding some
some_of_any p [] = refl
some_of_any p (x ∷ xs) = some_turn (p x) _ _ (some_of_any p xs)

-- ---- `all` and `any`, whose closure computes a test of each item

module _ {S A B F : Type 0} {g : Mut F (A × Unit {0}) Bool} (v : A → B) (rest : S → List B) (test : B → Bool) (s u : S) (f : F) (r : Bool) where
  pub all_told : ChecksAll (YieldsFirstBy v rest) g s f r u → ((x : A) (b : Bool) (q : F) → Called g f (x, tt) b q → (q ≡ f) × (b ≡ test (v x))) → r ≡ every test (rest s)
  all_told h k = all_from_yields_List test u f r h (YieldsList-from_first v rest (rest s) refl) k ∙ every_of_all test (rest s)

  pub any_told : ChecksAny (YieldsFirstBy v rest) g s f r u → ((x : A) (b : Bool) (q : F) → Called g f (x, tt) b q → (q ≡ f) × (b ≡ test (v x))) → r ≡ some test (rest s)
  any_told h k = any_from_yields_List test u f r h (YieldsList-from_first v rest (rest s) refl) k ∙ some_of_any test (rest s)
