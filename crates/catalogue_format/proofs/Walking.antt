-- A walk along fields: it stops at the first place and goes on from the next, however many places it may have. Assumes nothing.
use mathlib.Core.Path.{◌≡◌, refl, ap, ap₂, sym, ◌∙◌}
use mathlib.Core.Bool.{true}
use mathlib.Core.List.{List, [], ◌∷◌, ◌++◌}
use Prim.Native.Nat.{ℕ, zero, suc, ◌≤◌, ◌<◌}
use native.Mathlib.Omega.{arith}
use lib.Dec.{eqb}
use lib.ListN.{length, drop, length-drop, length-append}
use borrow.Author.Tests.{eq-eqb, ne_eqb}
use Rattle.rules.specs.Choice.{pick}
use Rattle.rules.proofs.Choose.{pick_all}
use Rattle.catalogue_format.specs.Format.{tag_of, value_of, after_of, is_field, is_group}
use Rattle.catalogue_format.specs.Shapes.{places, siblings, into, places_in, values_of, groups_in}
use Rattle.catalogue_format.proofs.FieldLaws.{field-tag, field_fits, same_tag, same-value, after-join, inside-join}

-- a step goes on
abbrev pub Falls : (List ℕ → List ℕ) → Type 0
Falls next = (s : List ℕ) → 0 < length s → length (next s) < length s

pub after-falls : Falls after_of
unfolding after_of
after-falls s h = rw length-drop (omega arith)

pub into-falls : Falls into
unfolding into
into-falls s h = pick_all (λ (t : List ℕ). length t < length s) (eqb (tag_of s) 3) (drop 3 s) (after_of s) (λ _. rw length-drop (omega arith)) (λ _. after-falls s h)

-- what a step leaves is shorter
pub shorter : (next : List ℕ → List ℕ) → Falls next → (s t : List ℕ) → 0 < length s → t ≡ next s → length t < length s
shorter next f s t h e =
    let g : length (next s) < length s = f s h in
    let z : length t ≡ length (next s) = ap length e in
    omega arith

any-bound : (next : List ℕ → List ℕ) → Falls next → (n m : ℕ) (s : List ℕ) → length s ≤ n → length s ≤ m → places next n s ≡ places next m s
unfolding places
any-bound next f zero zero s h l = refl
any-bound next f zero (suc m) [] h l = refl
any-bound next f zero (suc m) (x ∷ xs) h l = absurd (omega arith)
any-bound next f (suc n) zero [] h l = refl
any-bound next f (suc n) zero (x ∷ xs) h l = absurd (omega arith)
any-bound next f (suc n) (suc m) [] h l = refl
any-bound next f (suc n) (suc m) (x ∷ xs) h l =
    let s : List ℕ = x ∷ xs in
    let g : length (next s) < length s = f s (omega arith) in
    ap (λ (t : List (List ℕ)). s ∷ t) (any-bound next f n m (next s) (omega arith) (omega arith))

pub one_place : (next : List ℕ → List ℕ) → Falls next → (s : List ℕ) → 0 < length s → places next (length s) s ≡ s ∷ places next (length (next s)) (next s)
unfolding places
one_place next f [] h = absurd (omega arith)
one_place next f (x ∷ xs) h =
    let s : List ℕ = x ∷ xs in
    let g : length (next s) < length s = f s (omega arith) in
    ap (λ (t : List (List ℕ)). s ∷ t) (any-bound next f (length xs) (length (next s)) (next s) (omega arith) (omega arith))

pub next-sibling : (s : List ℕ) → 0 < length s → siblings s ≡ s ∷ siblings (after_of s)
unfolding siblings
next-sibling s h = one_place after_of after-falls s h

pub no-sibling : (s : List ℕ) → length s ≡ 0 → siblings s ≡ []
unfolding siblings places
no-sibling s h = rw h

pub next-place : (s : List ℕ) → 0 < length s → places_in s ≡ s ∷ places_in (into s)
unfolding places_in
next-place s h = one_place into into-falls s h

pub no-place : (s : List ℕ) → length s ≡ 0 → places_in s ≡ []
unfolding places_in places
no-place s h = rw h

pub next-group : (s : List ℕ) → 0 < length s → groups_in s ≡ pick (eqb (tag_of s) 3) (value_of s ∷ groups_in (into s)) (groups_in (into s))
unfolding groups_in values_of
next-group s h = ap values_of (next-place s h)

pub no-group : (s : List ℕ) → length s ≡ 0 → groups_in s ≡ []
unfolding groups_in values_of
no-group s h = ap values_of (no-place s h)

-- at a group, and at another field
pub at-group : (s : List ℕ) → 0 < length s → tag_of s ≡ 3 → groups_in s ≡ value_of s ∷ groups_in (drop 3 s)
unfolding into
at-group s h e = next-group s h ∙ rw (eq-eqb (tag_of s) 3 e)

pub at_other : (s : List ℕ) → 0 < length s → (tag_of s ≡ 3 → ⊥) → groups_in s ≡ groups_in (after_of s)
unfolding into
at_other s h e = next-group s h ∙ rw (ne_eqb (tag_of s) 3 e)

-- a whole field that is no group is stepped over
pub step-over : (tag : ℕ) (a b : List ℕ) → (tag ≡ 3 → ⊥) → is_field tag a ≡ true → groups_in (a ++ b) ≡ groups_in (after_of a ++ b)
step-over tag a b ne h =
    let fits = field_fits tag a h in
    let t : tag_of (a ++ b) ≡ tag = same_tag a b fits ∙ field-tag tag a h in
    let l : 0 < length (a ++ b) = rw length-append (omega arith) in
    at_other (a ++ b) l (λ e. ne (sym t ∙ e)) ∙ ap groups_in (after-join a b fits)

-- a whole group is stepped into
pub step-inside : (a b : List ℕ) → is_group a ≡ true → groups_in (a ++ b) ≡ value_of a ∷ groups_in (value_of a ++ (after_of a ++ b))
step-inside a b h =
    let fits = field_fits 3 a h in
    let t : tag_of (a ++ b) ≡ 3 = same_tag a b fits ∙ field-tag 3 a h in
    let l : 0 < length (a ++ b) = rw length-append (omega arith) in
    at-group (a ++ b) l t ∙ ap₂ (λ (v s : List ℕ). v ∷ groups_in s) (same-value a b fits) (inside-join a b fits)
