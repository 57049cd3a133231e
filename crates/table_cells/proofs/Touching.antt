-- Runs of cells as the code makes them: of words, of coils, of contacts. Assumes nothing.
use Prim.Native.Nat.{ℕ, zero, suc, ◌+◌, ◌-◌, ◌*◌, ◌/◌, ◌≤◌, ◌<◌}
use mathlib.Core.Bool.{Bool, true, false}
use mathlib.Core.List.{List, [], ◌∷◌, ◌++◌, map}
use mathlib.Core.Path.{◌≡◌, refl, sym, ap, ap₂, ◌∙◌}
use native.Mathlib.Numerals.{add-one}
use native.Mathlib.Omega.{arith}
use borrow.Author.Tests.{le-leb, lt-ltb, le-ltb}
use lib.Dec.{eqb, leb}
use lib.ListN.{length, get_or, set, take, length-map}
use lib.Seq.{take-suc, take-suc-set, take_all}
use Rattle.rules.specs.Choice.{both, some}
use Rattle.rules.proofs.Choose.{both_left, both_false, in-range}
use Rattle.table_addresses.specs.Areas.{contact_cell}
use Rattle.table_addresses.specs.declared.Area.{Area}
use Rattle.table_addresses.specs.declared.Area.TheVariants.{Relays}
use Rattle.table_registers.specs.declared.Verdict.{Verdict}
use Rattle.table_registers.specs.Table.{grants, allows, up_from, checked}
use Rattle.table_registers.specs.Bits.{word_of, words_of}
use Rattle.table_registers.specs.Operation.{is_granted}
use Rattle.table_registers.specs.Profile.{member}
use Rattle.table_registers.proofs.Done.{is-granted}
use Rattle.table_registers.proofs.Lacking.{checked-map, run_in, nowhere, up_from-length, up_from-at}
use Rattle.table_profiles.specs.Runs.{in_run}
use Rattle.table_profiles.proofs.Judged.{run-has, member-run}
use Rattle.table_cells.specs.declared.Touched.{Touched}
use Rattle.table_cells.specs.Touched.{in_runs, firsts_of, cells_in, Touches, run_cells, bit_cells}
use Rattle.table_cells.proofs.Shared.{some_same}
use Rattle.table_cells.proofs.Masks.{same_test, run-one}

run-true : (a n c : ℕ) → a ≤ c → c - a < n → in_run a n c ≡ true
run-true a n c l h = rw (le-leb a c l, lt-ltb (c - a) n h)

-- a run of words is a run of 16 times as many cells
pub run-16 : (k n c : ℕ) → in_run (16 * k) (16 * n) c ≡ in_run k n (word_of c)
run-16 k n c = same_test (in_run (16 * k) (16 * n) c) (in_run k n (c / 16))
    (λ e. let h = run-has (16 * k) (16 * n) c e in run-true k n (c / 16) (omega (arith, h.0)) (omega (arith, h.0, h.1)))
    (λ e. let h = run-has k n (c / 16) e in run-true (16 * k) (16 * n) c (omega (arith, h.0)) (omega (arith, h.0, h.1)))

run-empty : (k c : ℕ) → in_run k 0 c ≡ false
run-empty k c = rw (le-ltb (c - k) 0 (omega arith)) (both_false (leb k c))

no_second : (a b x : Bool) → b ≡ false → both (both a b) x ≡ false
no_second true b x e = ap (λ (t : Bool). both t x) e
no_second false b x e = refl

no_third : (a b x : Bool) → x ≡ false → both a (both b x) ≡ false
no_third true true x e = e
no_third true false x e = refl
no_third false b x e = refl

-- the verdict of a check, as the code asks it
pub decided : {v w : Verdict} {g b : Bool} → v ≡ w → g ≡ is_granted v → g ≡ b → is_granted w ≡ b
decided e f h = ap is_granted (sym e) ∙ sym f ∙ h

-- ---- words

-- a run that is granted lies in the table
pub words-in-table : (us : List ℕ) (area : Area) (ways k n : ℕ) → is_granted (checked (allows (length us) us area ways) 0 (up_from k n)) ≡ true → 0 < n → k + n ≤ length us
words-in-table us area ways k n e h = run_in (length us) us area ways k n (is-granted _ e) h

module _ (t : Touched) (us : List ℕ) (area : Area) (ways k n : ℕ) (taken : Bool) where
  pub words-not-taken : ((way c : ℕ) → cells_in t way c ≡ false) → taken ≡ false → Touches t (run_cells us area ways k n taken)
  unfolding run_cells
  words-not-taken none e way c = none way c ∙ sym (no_second (is_granted (checked (allows (length us) us area ways) 0 (up_from k n))) taken _ e)

  pub words-none : ((way c : ℕ) → cells_in t way c ≡ false) → n < 1 → Touches t (run_cells us area ways k n taken)
  unfolding run_cells
  words-none none h way c =
      let z : n ≡ 0 = omega arith in
      none way c
      ∙ sym (no_third (both (is_granted (checked (allows (length us) us area ways) 0 (up_from k n))) taken) (grants way ways) (in_run k n (word_of c))
      (ap (λ (m : ℕ). in_run k m (word_of c)) z ∙ run-empty k (word_of c)))

  pub words-refused : ((way c : ℕ) → cells_in t way c ≡ false) → is_granted (checked (allows (length us) us area ways) 0 (up_from k n)) ≡ false
      → Touches t (run_cells us area ways k n taken)
  unfolding run_cells
  words-refused none e way c = none way c ∙ sym (rw e)

  pub words-run : {first each : ℕ} → ((way c : ℕ) → cells_in t way c ≡ both (grants way ways) (in_run first each c)) → first ≡ 16 * k → each ≡ 16 * n
      → is_granted (checked (allows (length us) us area ways) 0 (up_from k n)) ≡ true → taken ≡ true → Touches t (run_cells us area ways k n taken)
  unfolding run_cells
  words-run h e f g i way c =
      h way c ∙ ap₂ (λ (x y : ℕ). both (grants way ways) (in_run x y c)) e f ∙ ap (both (grants way ways)) (run-16 k n c) ∙ sym (rw (g, i))

-- ---- bits

module _ (t : Touched) (us : List ℕ) (ways : ℕ) (cs : List ℕ) where
  pub bits-refused : ((way c : ℕ) → cells_in t way c ≡ false) → is_granted (checked (allows (length us) us Relays ways) 0 (words_of cs)) ≡ false → Touches t (bit_cells us ways cs)
  unfolding bit_cells
  bits-refused none e way c = none way c ∙ sym (rw e)

  pub bits-there : ((way c : ℕ) → cells_in t way c ≡ both (grants way ways) (member c cs)) → is_granted (checked (allows (length us) us Relays ways) 0 (words_of cs)) ≡ true
      → Touches t (bit_cells us ways cs)
  unfolding bit_cells
  bits-there h e way c = h way c ∙ sym (rw e)

  pub bits_none : ((way c : ℕ) → cells_in t way c ≡ false) → cs ≡ [] → Touches t (bit_cells us ways cs)
  unfolding bit_cells some
  bits_none none e way c =
      none way c ∙ sym (no_third (is_granted (checked (allows (length us) us Relays ways) 0 (words_of cs))) (grants way ways) (member c cs) (ap (member c) e))

-- bits that are granted lie in the relay words
pub bits_small : (us : List ℕ) (ways : ℕ) (cs : List ℕ) → is_granted (checked (allows (length us) us Relays ways) 0 (words_of cs)) ≡ true → (j : ℕ) → j < length cs → get_or cs j 0 < 2176
unfolding allows
bits_small us ways cs e j h =
    let p = allows (length us) us Relays ways in
    let there = nowhere (λ (c : ℕ). p (word_of c)) 0 cs (sym (checked-map p word_of 0 cs) ∙ is-granted _ e) j h in
    omega (arith, (in-range 130 135 (word_of (get_or cs j 0)) (both_left _ _ there)).1)

pub coils-small : (us : List ℕ) (ways cell n : ℕ) → is_granted (checked (allows (length us) us Relays ways) 0 (words_of (up_from cell n))) ≡ true → 0 < n → cell < 2176
coils-small us ways cell n e h =
    let first = bits_small us ways (up_from cell n) e 0 (rw up_from-length h) in
    let same : get_or (up_from cell n) 0 0 ≡ cell = up_from-at cell n 0 h ∙ omega arith in
    omega (arith, first, same)

-- ---- coils

pub no-coils : (cell n : ℕ) → n < 1 → up_from cell n ≡ []
unfolding up_from
no-coils cell n h = let z : n ≡ 0 = omega arith in rw z

pub coil-run : (t : Touched) (ways cell n : ℕ) {first : ℕ} → ((way c : ℕ) → cells_in t way c ≡ both (grants way ways) (in_run first n c)) → first ≡ cell
    → (way c : ℕ) → cells_in t way c ≡ both (grants way ways) (member c (up_from cell n))
coil-run t ways cell n h e way c =
    h way c ∙ ap (both (grants way ways)) (ap (λ (x : ℕ). in_run x n c) e ∙ sym (member-run cell n c))

-- ---- contacts

pub contact-runs : (t : Touched) (ways : ℕ) (cs : List ℕ) → t.way ≡ ways → t.each ≡ 1 → firsts_of t ≡ cs
    → (way c : ℕ) → cells_in t way c ≡ both (grants way ways) (member c cs)
unfolding cells_in in_runs
contact-runs t ways cs e f g way c =
    ap₂ both (ap (grants way) e)
    (ap₂ (λ (n : ℕ) (l : List ℕ). some (λ (first : ℕ). in_run first n c) l) f g ∙ some_same (λ (first : ℕ). in_run first 1 c) (λ i. eqb i c) (λ x. run-one x c) cs)

map_snoc : (f : ℕ → ℕ) (xs : List ℕ) (x : ℕ) → map f (xs ++ (x ∷ [])) ≡ map f xs ++ (f x ∷ [])
map_snoc f [] x = refl
map_snoc f (y ∷ ys) x = ap (λ (l : List ℕ). f y ∷ l) (map_snoc f ys x)

-- one contact more
pub contacts-more : (f : ℕ → ℕ) (cs firsts : List ℕ) (i : ℕ) {x : ℕ} → i < length cs → i < length firsts → take i firsts ≡ map f (take i cs) → x ≡ f (get_or cs i 0)
    → take (i + 1) (set firsts i x) ≡ map f (take (i + 1) cs)
contacts-more f cs firsts i {x} h k e g =
    ap (λ (j : ℕ). take j (set firsts i x)) (add-one i) ∙ take-suc-set firsts i x k
    ∙ ap₂ (λ (l : List ℕ) (y : ℕ). l ++ (y ∷ [])) e g
    ∙ sym (map_snoc f (take i cs) (get_or cs i 0))
    ∙ ap (map f) (sym (take-suc cs i 0 h) ∙ ap (λ (j : ℕ). take j cs) (sym (add-one i)))

-- and all of them
pub all-contacts : (f : ℕ → ℕ) (cs firsts : List ℕ) (i : ℕ) → length cs ≤ i → i ≤ length cs → take i firsts ≡ map f (take i cs) → take (length cs) firsts ≡ map f cs
all-contacts f cs firsts i h k e =
    let same : length cs ≡ i = omega arith in
    ap (λ (n : ℕ). take n firsts) same ∙ e ∙ ap (map f) (take_all i cs h)

get_d_map : (cs : List ℕ) (f : ℕ → ℕ) (j : ℕ) → j < length cs → get_or (map f cs) j 0 ≡ f (get_or cs j 0)
get_d_map [] f j h = absurd (omega arith)
get_d_map (c ∷ cs) f zero h = refl
get_d_map (c ∷ cs) f (suc j) h = get_d_map cs f j (omega arith)

pub contacts-small : (us : List ℕ) (ways : ℕ) (cs : List ℕ) → is_granted (checked (allows (length us) us Relays ways) 0 (words_of (map contact_cell cs))) ≡ true
    → (j : ℕ) → j < length cs → contact_cell (get_or cs j 0) < 2176
contacts-small us ways cs e j h =
    let small = bits_small us ways (map contact_cell cs) e j (rw (length-map cs contact_cell) h) in
    rw (sym (get_d_map cs contact_cell j h)) small
