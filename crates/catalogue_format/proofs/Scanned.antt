-- One walk from the front, group by group, tells whether the bytes can be read, at any depth: every field is right in exactly one group, so
-- the groups' own tests are all there is to test. Assumes nothing.
use mathlib.Core.Path.{◌≡◌, refl, ap, ap₂, sym, ◌∙◌}
use mathlib.Core.Bool.{Bool, true, false}
use mathlib.Core.List.{List, [], ◌∷◌, ◌++◌, append-nil}
use Prim.Native.Nat.{ℕ, zero, suc, ◌+◌, ◌≤◌, ◌<◌}
use native.Mathlib.Omega.{arith}
use lib.Dec.{eqb, leb}
use lib.ListN.{length}
use borrow.Author.Tests.{eqb-true}
use Rattle.rules.specs.Choice.{pick, both, either}
use Rattle.rules.proofs.Choose.{both_left, both_right, both_true, both_false, both-assoc, pick_yes, pick_no}
use Rattle.catalogue_format.specs.declared.Run.{Run}
use Rattle.catalogue_format.specs.Format.{Reading, malformed, reads, is_read, tag_of, size_of, value_of, after_of, is_field, is_name, is_run, is_group, run_of, with_run, with_group, read_first, read_items, is_whole, read_file}
use Rattle.catalogue_format.specs.Shapes.{into, every, groups_in, is_item, filled_exactly, is_group_value, all_groups, well_formed}
use Rattle.catalogue_format.proofs.Bools.{by-test, both-swap}
use Rattle.catalogue_format.proofs.Walking.{next-group, next-sibling, no-sibling, no-group, step-over, step-inside}
use Rattle.catalogue_format.proofs.FieldLaws.{field_fits, run-field, name-field, after-length, value-length}

-- ---- the two tests, a field further on

pub exactly-none : (s : List ℕ) → length s ≡ 0 → filled_exactly s ≡ true
unfolding filled_exactly every
exactly-none s h = ap (every is_item) (no-sibling s h)

pub exactly-next : (s : List ℕ) → 0 < length s → filled_exactly s ≡ both (is_item s) (filled_exactly (after_of s))
unfolding filled_exactly every
exactly-next s h = ap (every is_item) (next-sibling s h)

pub all_none : (s : List ℕ) → length s ≡ 0 → all_groups s ≡ true
unfolding all_groups every
all_none s h = ap (every is_group_value) (no-group s h)

every-pick : (p : List ℕ → Bool) (t : Bool) (v : List ℕ) (ws : List (List ℕ)) → every p (pick t (v ∷ ws) ws) ≡ both (pick t (p v) true) (every p ws)
unfolding every
every-pick p true v ws = refl
every-pick p false v ws = refl

-- a turn of the walk
pub all-next : (s : List ℕ) → 0 < length s → all_groups s ≡ both (pick (eqb (tag_of s) 3) (is_group_value (value_of s)) true) (all_groups (into s))
unfolding all_groups
all-next s h = ap (every is_group_value) (next-group s h) ∙ every-pick is_group_value (eqb (tag_of s) 3) (value_of s) (groups_in (into s))

over : (tag : ℕ) (a b : List ℕ) → (tag ≡ 3 → ⊥) → is_field tag a ≡ true → all_groups (a ++ b) ≡ all_groups (after_of a ++ b)
unfolding all_groups
over tag a b ne h = ap (every is_group_value) (step-over tag a b ne h)

inside : (a b : List ℕ) → is_group a ≡ true → all_groups (a ++ b) ≡ both (is_group_value (value_of a)) (all_groups (value_of a ++ (after_of a ++ b)))
unfolding all_groups every
inside a b h = ap (every is_group_value) (step-inside a b h)

-- ---- the reading

read-run : (r : Run) (x : Reading) → is_read (with_run r x) ≡ is_read x
read-run r malformed = refl
read-run r (reads t) = refl

read-group : (n : List ℕ) (x y : Reading) → is_read (with_group n x y) ≡ both (is_read x) (is_read y)
read-group n malformed y = refl
read-group n (reads i) malformed = refl
read-group n (reads i) (reads t) = refl

-- ---- the step

Told : (List ℕ → Reading) → List ℕ → List ℕ → Type 0
Told g a b = both (filled_exactly a) (all_groups (a ++ b)) ≡ both (is_read (g a)) (all_groups b)

module _ (g : List ℕ → Reading) (a b : List ℕ) (some : 0 < length a) (ih : (c d : List ℕ) → length c < length a → Told g c d) where
  a-run : is_run a ≡ true → both (filled_exactly a) (all_groups (a ++ b)) ≡ both (is_read (read_first g a)) (all_groups b)
  unfolding is_item Told
  a-run h =
      let f = run-field a h in
      let fits = field_fits 2 a f in
      let l : length (after_of a) < length a = rw after-length (omega arith) in
      let no3 : ◌≡◌ {A = ℕ} 2 3 → ⊥ = λ e. omega arith in
      let e : filled_exactly a ≡ filled_exactly (after_of a) = exactly-next a some ∙ ap (λ (t : Bool). both (either t (is_group a)) (filled_exactly (after_of a))) h in
      let r : is_read (read_first g a) ≡ is_read (g (after_of a)) = ap is_read (pick_yes (is_run a) _ _ h) ∙ read-run (run_of a) (g (after_of a)) in
      ap₂ both e (over 2 a b no3 f) ∙ ih (after_of a) b l ∙ ap (λ (t : Bool). both t (all_groups b)) (sym r)

  a-wrong : is_run a ≡ false → is_group a ≡ false → both (filled_exactly a) (all_groups (a ++ b)) ≡ both (is_read (read_first g a)) (all_groups b)
  unfolding is_item
  a-wrong h k =
      let e : filled_exactly a ≡ false = exactly-next a some ∙ ap₂ (λ (t u : Bool). both (either t u) (filled_exactly (after_of a))) h k in
      let r : is_read (read_first g a) ≡ false = ap is_read (pick_no (is_run a) _ _ h ∙ pick_no (both (is_group a) (is_name (value_of a))) _ _ (ap (λ (t : Bool). both t (is_name (value_of a))) k)) in
      ap (λ (t : Bool). both t (all_groups (a ++ b))) e ∙ ap (λ (t : Bool). both t (all_groups b)) (sym r)

  module _ (h : is_run a ≡ false) (k : is_group a ≡ true) where
    fits : 3 + size_of a ≤ length a
    fits = field_fits 3 a k

    exactly : filled_exactly a ≡ filled_exactly (after_of a)
    unfolding is_item
    exactly = exactly-next a some ∙ ap₂ (λ (t u : Bool). both (either t u) (filled_exactly (after_of a))) h k

    no_name : is_name (value_of a) ≡ false → both (filled_exactly a) (all_groups (a ++ b)) ≡ both (is_read (read_first g a)) (all_groups b)
    unfolding is_group_value
    no_name n =
        let r : is_read (read_first g a) ≡ false = ap is_read (pick_no (is_run a) _ _ h ∙ pick_no (both (is_group a) (is_name (value_of a))) _ _ (ap₂ both k n)) in
        let w : all_groups (a ++ b) ≡ false = inside a b k ∙ ap (λ (t : Bool). both (both t (filled_exactly (after_of (value_of a)))) (all_groups (value_of a ++ (after_of a ++ b)))) n in
        ap (both (filled_exactly a)) w ∙ both_false (filled_exactly a) ∙ ap (λ (t : Bool). both t (all_groups b)) (sym r)

    with-name : is_name (value_of a) ≡ true → both (filled_exactly a) (all_groups (a ++ b)) ≡ both (is_read (read_first g a)) (all_groups b)
    unfolding is_group_value Told
    with-name n =
        let w = value_of a in
        let w' = after_of w in
        let a' = after_of a in
        let room : 3 + size_of a ≤ length a = fits in
        let vl : length w ≡ size_of a = value-length a room in
        let l : length w' < length a = rw after-length (omega arith) in
        let l2 : length a' < length a = rw after-length (omega arith) in
        let no3 : ◌≡◌ {A = ℕ} 1 3 → ⊥ = λ e. omega arith in
        let r : is_read (read_first g a) ≡ both (is_read (g w')) (is_read (g a')) =
        ap is_read (pick_no (is_run a) _ _ h ∙ pick_yes (both (is_group a) (is_name (value_of a))) _ _ (ap₂ both k n)) ∙ read-group (value_of w) (g w') (g a') in
        let s : all_groups (a ++ b) ≡ both (is_read (g w')) (all_groups (a' ++ b)) =
        inside a b k
        ∙ ap₂ (λ (t u : Bool). both (both t (filled_exactly w')) u) n (over 1 w (a' ++ b) no3 (name-field w n))
        ∙ ih w' (a' ++ b) l in
        ap₂ both exactly s
        ∙ both-swap (filled_exactly a') (is_read (g w')) (all_groups (a' ++ b))
        ∙ ap (both (is_read (g w'))) (ih a' b l2)
        ∙ sym (both-assoc (is_read (g w')) (is_read (g a')) (all_groups b))
        ∙ ap (λ (t : Bool). both t (all_groups b)) (sym r)

  step : both (filled_exactly a) (all_groups (a ++ b)) ≡ both (is_read (read_first g a)) (all_groups b)
  step =
      by-test (is_run a) a-run
      (λ h. by-test (is_group a) (λ k. by-test (is_name (value_of a)) (with-name h k) (no_name h k)) (a-wrong h))

-- some bytes, before others: the walk finds every group of them in order and they are filled exactly, where they can be read
pub scanned : (m : ℕ) (a b : List ℕ) → length a ≤ m → both (filled_exactly a) (all_groups (a ++ b)) ≡ both (is_read (read_items m a)) (all_groups b)
unfolding read_items Told
scanned zero [] b h = ap (λ (t : Bool). both t (all_groups b)) (exactly-none [] refl)
scanned zero (x ∷ xs) b h = absurd (omega arith)
scanned (suc m) [] b h = ap (λ (t : Bool). both t (all_groups b)) (exactly-none [] refl)
scanned (suc m) (x ∷ xs) b h = step (read_items m) (x ∷ xs) b (omega arith) (λ c d l. scanned m c d (omega arith))

-- ---- a file

whole-exactly : (s : List ℕ) → is_whole s ≡ true → filled_exactly s ≡ true
unfolding is_whole is_item
whole-exactly s h =
    let w : both (is_group s) (eqb (3 + size_of s) (length s)) ≡ true = both_right (leb (length s) 65535) _ h in
    let k : is_group s ≡ true = both_left _ _ w in
    let e : 3 + size_of s ≡ length s = eqb-true _ _ (both_right (is_group s) _ w) in
    let z : length (after_of s) ≡ 0 = rw after-length (omega arith) in
    let i : is_item s ≡ true = by-test (is_run s) (λ t. ap (λ (u : Bool). either u (is_group s)) t) (λ t. ap₂ either t k) in
    exactly-next s (omega arith) ∙ ap₂ both i (exactly-none (after_of s) z)

pub well-formed : (s : List ℕ) → well_formed s ≡ is_read (read_file s)
unfolding well_formed read_file
well-formed s =
    by-test (is_whole s)
    (λ h.
    let k : all_groups (s ++ []) ≡ is_read (read_items (length s) s) =
    sym (ap (λ (t : Bool). both t (all_groups (s ++ []))) (whole-exactly s h)) ∙ scanned (length s) s [] (omega arith) ∙ ap (both (is_read (read_items (length s) s))) (all_none [] refl) ∙ both_true (is_read (read_items (length s) s)) in
    ap (λ (t : Bool). both t (all_groups s)) h ∙ ap all_groups (sym (append-nil s)) ∙ k ∙ ap is_read (sym (pick_yes (is_whole s) _ _ h)))
    (λ h. ap (λ (t : Bool). both t (all_groups s)) h ∙ ap is_read (sym (pick_no (is_whole s) (read_items (length s) s) malformed h)))
