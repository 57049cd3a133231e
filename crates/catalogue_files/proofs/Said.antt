-- What bytes that can be read say, and that a walk along them meets the same groups and runs. Assumes nothing.
use mathlib.Core.Path.{◌≡◌, refl, ap, ap₂, sym, subst, ◌∙◌}
use mathlib.Core.Bool.{true, false≢true}
use mathlib.Core.List.{List, [], ◌∷◌, ◌++◌, map, append-nil, append_assoc}
use Prim.Native.Nat.{ℕ, zero, suc, ◌≤◌, ◌<◌}
use native.Mathlib.Omega.{arith}
use lib.Dec.{eqb}
use lib.ListN.{length}
use borrow.Author.Tests.{eq-eqb, ne_eqb}
use Rattle.rules.specs.Choice.{pick, both}
use Rattle.rules.proofs.Choose.{both_left, both_right, pick_yes, pick_no}
use Rattle.catalogue_format.specs.declared.Run.{Run}
use Rattle.catalogue_format.specs.Format.{Items, none, run, group, Reading, malformed, reads, is_read, tag_of, size_of, value_of, after_of, is_name, is_run, is_group, run_of, with_run, with_group, read_first, read_items, is_whole, read_file}
use Rattle.catalogue_files.specs.Refusals.{Group, groups_of, own}
use Rattle.catalogue_format.specs.Shapes.{groups_in}
use Rattle.catalogue_files.specs.Walks.{runs_among, runs_in}
use Rattle.catalogue_format.proofs.Bools.{by-test}
use Rattle.catalogue_format.proofs.Walking.{next-sibling, no-sibling, no-group, step-over, step-inside}
use Rattle.catalogue_format.proofs.FieldLaws.{field-tag, field_fits, run-field, name-field, after-length, value-length}

pub data Says : List ℕ → Items → Type 0 where
  nothing : Says [] none
  a-run : (a : List ℕ) (t : Items) → is_run a ≡ true → Says (after_of a) t → Says a (run (run_of a) t)
  a-group : (a : List ℕ) (i t : Items) → is_group a ≡ true → is_name (value_of a) ≡ true → Says (after_of (value_of a)) i → Says (after_of a) t → Says a (group (value_of (value_of a)) i t)

-- ---- from the reading

not-read : (t : Items) → malformed ≡ reads t → ⊥
not-read t e = false≢true (ap is_read e)

run-said : (a : List ℕ) (t : Items) (x : Reading) → is_run a ≡ true → ((u : Items) → x ≡ reads u → Says (after_of a) u) → with_run (run_of a) x ≡ reads t → Says a t
run-said a t malformed h ih e = absurd (not-read t e)
run-said a t (reads u) h ih e = let q : run (run_of a) u ≡ t = cc in subst (λ (y : Items). Says a y) q (a-run a u h (ih u refl))

group-said : (a : List ℕ) (t : Items) (x y : Reading) → is_group a ≡ true → is_name (value_of a) ≡ true → ((u : Items) → x ≡ reads u → Says (after_of (value_of a)) u) → ((u : Items) → y ≡ reads u → Says (after_of a) u)
    → with_group (value_of (value_of a)) x y ≡ reads t → Says a t
group-said a t malformed y h n ih jh e = absurd (not-read t e)
group-said a t (reads i) malformed h n ih jh e = absurd (not-read t e)
group-said a t (reads i) (reads u) h n ih jh e = let q : group (value_of (value_of a)) i u ≡ t = cc in subst (λ (y : Items). Says a y) q (a-group a i u h n (ih i refl) (jh u refl))

first_said : (g : List ℕ → Reading) (a : List ℕ) (t : Items) → 0 < length a → ((c : List ℕ) (u : Items) → length c < length a → g c ≡ reads u → Says c u) → read_first g a ≡ reads t → Says a t
first_said g a t some ih e =
    by-test (is_run a)
    (λ h.
    let fits = field_fits 2 a (run-field a h) in
    let l : length (after_of a) < length a = rw after-length (omega arith) in
    run-said a t (g (after_of a)) h (λ u. ih (after_of a) u l) (sym (pick_yes (is_run a) _ _ h) ∙ e))
    (λ h. by-test (both (is_group a) (is_name (value_of a)))
    (λ k.
    let gr = both_left (is_group a) (is_name (value_of a)) k in
    let fits = field_fits 3 a gr in
    let vl : length (value_of a) ≡ size_of a = value-length a fits in
    let l : length (after_of a) < length a = rw after-length (omega arith) in
    let l2 : length (after_of (value_of a)) < length a = rw after-length (omega arith) in
    group-said a t (g (after_of (value_of a))) (g (after_of a)) gr (both_right (is_group a) _ k) (λ u. ih (after_of (value_of a)) u l2) (λ u. ih (after_of a) u l)
    (sym (pick_no (is_run a) _ _ h ∙ pick_yes (both (is_group a) (is_name (value_of a))) _ _ k) ∙ e))
    (λ k. absurd (not-read t (sym (pick_no (is_run a) _ _ h ∙ pick_no (both (is_group a) (is_name (value_of a))) _ _ k) ∙ e))))

pub said : (m : ℕ) (a : List ℕ) (t : Items) → length a ≤ m → read_items m a ≡ reads t → Says a t
unfolding read_items
said zero [] t h e = let q : none ≡ t = cc in subst (λ (y : Items). Says [] y) q nothing
said zero (x ∷ xs) t h e = absurd (omega arith)
said (suc m) [] t h e = let q : none ≡ t = cc in subst (λ (y : Items). Says [] y) q nothing
said (suc m) (x ∷ xs) t h e = first_said (read_items m) (x ∷ xs) t (omega arith) (λ c u l. said m c u (omega arith)) e

pub file-said : (file : List ℕ) (t : Items) → read_file file ≡ reads t → Says file t
unfolding read_file
file-said file t e =
    by-test (is_whole file)
    (λ w. said (length file) file t (omega arith) (sym (pick_yes (is_whole file) (read_items (length file) file) malformed w) ∙ e))
    (λ w. absurd (not-read t (sym (pick_no (is_whole file) (read_items (length file) file) malformed w) ∙ e)))

-- ---- the groups of a walk, and the runs

pub map-append : {A B : Type 0} (f : A → B) (xs ys : List A) → map f (xs ++ ys) ≡ map f xs ++ map f ys
map-append f [] ys = refl
map-append f (x ∷ xs) ys = ap (λ (r : List _). f x ∷ r) (map-append f xs ys)

module _ {A : Type 0} (f : List ℕ → A) (h : Group → A) (alike : (v : List ℕ) (i : Items) → is_name v ≡ true → Says (after_of v) i → f v ≡ h (record { name = value_of v; items = i })) where
  gathered : (a : List ℕ) (t : Items) → Says a t → (b : List ℕ) → map f (groups_in (a ++ b)) ≡ map h (groups_of t) ++ map f (groups_in b)
  unfolding groups_of
  gathered _ _ nothing b = refl
  gathered _ _ (a-run a t r s) b =
      let no3 : ◌≡◌ {A = ℕ} 2 3 → ⊥ = λ e. omega arith in
      ap (map f) (step-over 2 a b no3 (run-field a r)) ∙ gathered (after_of a) t s b
  gathered _ _ (a-group a i t g n s r) b =
      let no3 : ◌≡◌ {A = ℕ} 1 3 → ⊥ = λ e. omega arith in
      let v = value_of a in
      let first : groups_in (a ++ b) ≡ v ∷ groups_in (after_of v ++ (after_of a ++ b)) = step-inside a b g ∙ ap (λ (u : List (List ℕ)). v ∷ u) (step-over 1 v (after_of a ++ b) no3 (name-field v n)) in
      ap (map f) first
      ∙ ap₂ (λ (x : A) (u : List A). x ∷ u) (alike v i n s)
      (gathered (after_of v) i s (after_of a ++ b)
      ∙ ap (λ (u : List A). map h (groups_of i) ++ u) (gathered (after_of a) t r b)
      ∙ sym (append_assoc (map h (groups_of i)) (map h (groups_of t)) (map f (groups_in b)))
      ∙ ap (λ (u : List A). u ++ map f (groups_in b)) (sym (map-append h (groups_of i) (groups_of t))))

  pub collected : (a : List ℕ) (t : Items) → Says a t → map f (groups_in a) ≡ map h (groups_of t)
  collected a t s =
      ap (λ (u : List ℕ). map f (groups_in u)) (sym (append-nil a))
      ∙ gathered a t s []
      ∙ ap (λ (u : List (List ℕ)). map h (groups_of t) ++ map f u) (no-group [] refl)
      ∙ append-nil (map h (groups_of t))

-- the field at the place of a walk along siblings
pub next-run : (s : List ℕ) → 0 < length s → runs_in s ≡ pick (eqb (tag_of s) 2) (run_of s ∷ runs_in (after_of s)) (runs_in (after_of s))
unfolding runs_in runs_among
next-run s h = ap runs_among (next-sibling s h)

pub no_run : (s : List ℕ) → length s ≡ 0 → runs_in s ≡ []
unfolding runs_in runs_among
no_run s h = ap runs_among (no-sibling s h)

pub runs-said : (a : List ℕ) (t : Items) → Says a t → runs_in a ≡ own t
unfolding own
runs-said _ _ nothing = no_run [] refl
runs-said _ _ (a-run a t r s) =
    let f = run-field a r in
    let fits = field_fits 2 a f in
    next-run a (omega arith) ∙ pick_yes (eqb (tag_of a) 2) _ _ (eq-eqb _ _ (field-tag 2 a f)) ∙ ap (λ (u : List Run). run_of a ∷ u) (runs-said (after_of a) t s)
runs-said _ _ (a-group a i t g n s r) =
    let fits = field_fits 3 a g in
    let e = field-tag 3 a g in
    let no2 : tag_of a ≡ 2 → ⊥ = λ z. omega arith in
    next-run a (omega arith) ∙ pick_no (eqb (tag_of a) 2) _ _ (ne_eqb _ _ no2) ∙ runs-said (after_of a) t r
