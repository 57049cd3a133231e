-- A walk that looks for the first place that has something: what `find` gives is that place, and it is found no further on than the walk goes.
-- Assumes nothing.
use mathlib.Core.Path.{◌≡◌, refl, ap, ◌∙◌}
use mathlib.Core.Bool.{Bool, true, false, cond}
use mathlib.Core.List.{List, [], ◌∷◌}
use Prim.Native.Nat.{ℕ, zero, suc, ◌≤◌, ◌<◌}
use native.Mathlib.Omega.{arith}
use lib.ListN.{length}
use denote.Ref.{Bor}
use denote.Param.Members.{Mut}
use Rattle.std.specs.Prelude.{Option, None, Some}
use Rattle.std.specs.Fn.{CalledAt}
use Rattle.std.specs.Iterator.{YieldsFirstBy, FindsItem}
use Rattle.std.specs.List.{find}
use Rattle.std.specs.Option.{unwrap_or, option_map}
use Rattle.std.proofs.lemmas.Iterator.Search.{find_from_yields_List}
use Rattle.std.proofs.lemmas.Iterator.Consumers.{YieldsList-from_first}
use Rattle.rules.specs.Choice.{pick}
use Rattle.rules.proofs.Choose.{pick_all}
use Rattle.catalogue_format.specs.Shapes.{places}
use Rattle.catalogue_format.proofs.Walking.{Falls}
use Rattle.catalogue_places.specs.Places.{first_that}

-- ---- what `find` gives, or nothing

turn : (t : Bool) (x : List ℕ) (o : Option (List ℕ)) → unwrap_or (cond t (Some x) o) [] ≡ pick t x (unwrap_or o [])
turn true x o = refl
turn false x o = refl

first_of_find : (p : List ℕ → Bool) (xs : List (List ℕ)) → unwrap_or (find p xs) [] ≡ first_that p xs
unfolding first_that
first_of_find p [] = refl
first_of_find p (x ∷ xs) = turn (p x) x (find p xs) ∙ ap (pick (p x) x) (first_of_find p xs)

behind : (r : Option (Bor (List ℕ))) (d : Bor (List ℕ)) → d.now ≡ [] → (unwrap_or r d).now ≡ unwrap_or (option_map (λ x. x.now) r) []
behind None d e = e
behind (Some x) d e = refl

module _ {S F : Type 0} {g : Mut F (Bor (Bor (List ℕ)) × Unit {0}) Bool} (rest : S → List (List ℕ)) (test : List ℕ → Bool) (s u : S) (f : F) (r : Option (Bor (List ℕ))) (d : Bor (List ℕ)) where
  pub find_told : FindsItem (YieldsFirstBy (λ x. x.now) rest) g s f r u → ((x : Bor (List ℕ)) (b : Bool) (q : F) → CalledAt g f x b q → (q ≡ f) × (b ≡ test x.now)) → d.now ≡ [] → (unwrap_or r d).now ≡ first_that test (rest s)
  find_told h k e =
      behind r d e
      ∙ ap (λ (o : Option (List ℕ)). unwrap_or o []) (find_from_yields_List test u f r h (YieldsList-from_first (λ x. x.now) rest (rest s) refl) k)
      ∙ first_of_find test (rest s)

-- ---- how far on

abbrev pub walk : (List ℕ → List ℕ) → (List ℕ → Bool) → List ℕ → List ℕ
walk next p s = first_that p (places next (length s) s)

module _ (next : List ℕ → List ℕ) (f : Falls next) (p : List ℕ → Bool) where
  bounded : (n : ℕ) (s : List ℕ) → length (first_that p (places next n s)) ≤ length s
  unfolding first_that places
  bounded zero s = omega arith
  bounded (suc n) [] = omega arith
  bounded (suc n) (x ∷ xs) =
      let s : List ℕ = x ∷ xs in
      let g : length (next s) < length s = f s (omega arith) in
      let l : length (first_that p (places next n (next s))) ≤ length (next s) = bounded n (next s) in
      pick_all (λ (t : List ℕ). length t ≤ length s) (p s) s (first_that p (places next n (next s))) (λ _. omega arith) (λ _. omega arith)

  pub found_within : (s : List ℕ) → length (walk next p s) ≤ length s
  found_within s = bounded (length s) s
