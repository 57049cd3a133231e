-- The lowest cell that two lists of runs share: of two runs it is the later first cell, of several the lowest of what each gives. Such a cell is
-- the one that a search from 0 on ends at. Assumes nothing.
use Prim.Native.Nat.{ℕ, zero, suc, ◌+◌, ◌-◌, ◌≤◌, ◌<◌, max, min}
use mathlib.Core.Bool.{Bool, true, false, false≢true}
use mathlib.Core.List.{List, [], ◌∷◌}
use mathlib.Core.Path.{◌≡◌, refl, sym, ap, ap₂, subst, ◌∙◌}
use native.Mathlib.Omega.{arith}
use borrow.Author.Tests.{le-leb, lt-leb, leb-true, leb-false, ltb-true, ltb-false, lt-ltb}
use lib.Dec.{leb, ltb}
use lib.ListN.{length, drop, get_or}
use Rattle.rules.specs.Choice.{pick, both, either, some}
use Rattle.rules.proofs.Choose.{both_left, both_right, both_true, both_false, pick_yes, pick_no, pick_all, via}
use Rattle.text_slices.proofs.Walk.{step, stop}
use Rattle.table_registers.specs.Table.{grants}
use Rattle.table_profiles.specs.Runs.{in_run}
use Rattle.table_profiles.proofs.Judged.{run-has}
use Rattle.table_cells.specs.declared.Meeting.{Meeting}
use Rattle.table_cells.specs.declared.Meeting.TheVariants.{Never, At}
use Rattle.table_cells.specs.declared.Touched.{Touched}
use Rattle.table_cells.specs.Cells.{meets_at, lowest}
use Rattle.table_cells.specs.Touched.{in_runs, firsts_of, cells_in, Lowest, ways_meet, shared, lower, lowest_from, lowest_of}

-- ---- tests

-- a test that can't hold does not
pub never_true : (b : Bool) → (b ≡ true → b ≡ false) → b ≡ false
never_true true f = f refl
never_true false f = refl

-- a test of a list, by the tests of its elements
pub some_same : (p q : ℕ → Bool) → ((x : ℕ) → p x ≡ q x) → (xs : List ℕ) → some p xs ≡ some q xs
unfolding some
some_same p q same [] = refl
some_same p q same (x ∷ xs) = ap₂ either (same x) (some_same p q same xs)

pub some-both : (b : Bool) (p : ℕ → Bool) (xs : List ℕ) → some (λ x. both b (p x)) xs ≡ both b (some p xs)
unfolding some
some-both true p xs = refl
some-both false p [] = refl
some-both false p (x ∷ xs) = some-both false p xs

pub some-both-right : (b : Bool) (p : ℕ → Bool) (xs : List ℕ) → some (λ x. both (p x) b) xs ≡ both (some p xs) b
unfolding some
some-both-right true p xs = some_same (λ x. both (p x) true) p (λ x. both_true (p x)) xs ∙ sym (both_true (some p xs))
some-both-right false p [] = refl
some-both-right false p (x ∷ xs) = ap₂ either (both_false (p x)) (some-both-right false p xs) ∙ both_false (some p xs) ∙ sym (both_false (either (p x) (some p xs)))

-- ---- the lowest

pub lowest-same : (p q : ℕ → Bool) → ((c : ℕ) → p c ≡ q c) → (m : Meeting) → Lowest p m → Lowest q m
lowest-same p q same Never h = λ c. via (same c) (h c)
lowest-same p q same (At k) h = (via (same k) h.0, λ c l. via (same c) (h.1 c l))

either-right : (a : Bool) → either a true ≡ true
either-right true = refl
either-right false = refl

-- of two tests it is the lower of each one's
pub lower-lowest : (p q : ℕ → Bool) (m l : Meeting) → Lowest p m → Lowest q l → Lowest (λ c. either (p c) (q c)) (lower m l)
lower-lowest p q Never Never h k = λ c. rw (h c) (k c)
lower-lowest p q Never (At l) h k = (rw (h l) k.0, λ c b. rw (h c) (k.1 c b))
lower-lowest p q (At m) Never h k = (ap (λ (b : Bool). either b (q m)) h.0, λ c b. rw (h.1 c b) (k c))
lower-lowest p q (At m) (At l) h k = (there (leb m l) refl, λ c b. rw (h.1 c (omega arith)) (k.1 c (omega arith)))
  where
    there : (b : Bool) → leb m l ≡ b → either (p (min m l)) (q (min m l)) ≡ true
    there true e =
        let first : min m l ≡ m = omega (arith, leb-true m l e) in
        ap (λ (c : ℕ). either (p c) (q c)) first ∙ ap (λ (b : Bool). either b (q m)) h.0
    there false e =
        let second : min m l ≡ l = omega (arith, leb-false m l e) in
        ap (λ (c : ℕ). either (p c) (q c)) second ∙ ap (either (p l)) k.0 ∙ either-right (p l)

either-assoc : (a b c : Bool) → either (either a b) c ≡ either a (either b c)
either-assoc true b c = refl
either-assoc false b c = refl

-- of a list of tests it is the lowest of each one's
pub from_lowest : (g : ℕ → Meeting) (q : ℕ → ℕ → Bool) → ((x : ℕ) → Lowest (q x) (g x)) → (xs : List ℕ) (p : ℕ → Bool) (m : Meeting) → Lowest p m
    → Lowest (λ c. either (p c) (some (λ x. q x c) xs)) (lowest_from g m xs)
unfolding some lowest_from
from_lowest g q each [] p m h = lowest-same p (λ c. either (p c) false) (λ c. sym (one (p c))) m h
  where
    one : (b : Bool) → either b false ≡ b
    one true = refl
    one false = refl
from_lowest g q each (x ∷ xs) p m h =
    lowest-same (λ c. either (either (p c) (q x c)) (some (λ x. q x c) xs)) (λ c. either (p c) (either (q x c) (some (λ x. q x c) xs)))
    (λ c. either-assoc (p c) (q x c) (some (λ x. q x c) xs)) (lowest_from g (lower m (g x)) xs)
    (from_lowest g q each xs (λ c. either (p c) (q x c)) (lower m (g x)) (lower-lowest p (q x) m (g x) h (each x)))

pub of-lowest : (g : ℕ → Meeting) (q : ℕ → ℕ → Bool) → ((x : ℕ) → Lowest (q x) (g x)) → (xs : List ℕ) → Lowest (λ c. some (λ x. q x c) xs) (lowest_of g xs)
of-lowest g q each xs = from_lowest g q each xs (λ c. false) Never (λ c. refl)

-- ---- two runs

run-true : (a n c : ℕ) → a ≤ c → c - a < n → in_run a n c ≡ true
run-true a n c l h = rw (le-leb a c l, lt-ltb (c - a) n h)

run-before : (a n c : ℕ) → c < a → in_run a n c ≡ false
run-before a n c h = rw (lt-leb a c h)

module _ (n a m b : ℕ) where
  -- a cell that both have: so they have the later first cell
  both-start : (c : ℕ) → both (in_run a n c) (in_run b m c) ≡ true → both (in_run a n (max a b)) (in_run b m (max a b)) ≡ true
  both-start c e =
      let one = run-has a n c (both_left _ _ e) in
      let other = run-has b m c (both_right (in_run a n c) _ e) in
      rw (run-true a n (max a b) (omega arith) (omega (arith, one.0, one.1, other.0, other.1)))
      (run-true b m (max a b) (omega arith) (omega (arith, one.0, one.1, other.0, other.1)))

  earlier-none : (c : ℕ) → c < max a b → both (in_run a n c) (in_run b m c) ≡ false
  earlier-none c h =
      never_true (both (in_run a n c) (in_run b m c)) (λ e. absurd (omega (arith, h, (run-has a n c (both_left _ _ e)).0, (run-has b m c (both_right (in_run a n c) _ e)).0)))

  pub shared-lowest : Lowest (λ c. both (in_run a n c) (in_run b m c)) (shared n a m b)
  unfolding shared
  shared-lowest = pick_all (Lowest (λ c. both (in_run a n c) (in_run b m c))) (both (in_run a n (max a b)) (in_run b m (max a b))) (At (max a b)) Never
      (λ e. (e, earlier-none))
      (λ e c. never_true _ (λ f. absurd (false≢true (sym e ∙ both-start c f))))

-- any run of the one with any of the other
pub runs-lowest : (n m : ℕ) (ones others : List ℕ) → Lowest (λ c. both (in_runs n ones c) (in_runs m others c)) (lowest_of (λ a. lowest_of (shared n a m) others) ones)
unfolding in_runs
runs-lowest n m ones others =
    lowest-same (λ c. some (λ a. some (λ b. both (in_run a n c) (in_run b m c)) others) ones) _
    (λ c. some_same _ (λ a. both (in_run a n c) (in_runs m others c)) (λ a. some-both (in_run a n c) (λ b. in_run b m c) others) ones ∙ some-both-right (in_runs m others c) (λ a. in_run a n c) ones)
    (lowest_of (λ a. lowest_of (shared n a m) others) ones)
    (of-lowest (λ a. lowest_of (shared n a m) others) (λ a c. some (λ b. both (in_run a n c) (in_run b m c)) others)
    (λ a. of-lowest (shared n a m) (λ b c. both (in_run a n c) (in_run b m c)) (λ b. shared-lowest n a m b) others) ones)

-- ---- the ways of both

meets-by : (r w r' w' x y : Bool)
    → either (both (both w x) (either (both r' y) (both w' y))) (both (both r x) (both w' y)) ≡ both (either (both w (either r' w')) (both r w')) (both x y)
meets-by r w r' w' true true = simp both_true
meets-by r w r' w' true false = simp (both_true, both_false)
meets-by r w r' w' false y = simp both_false

both-comm : (a b : Bool) → both a b ≡ both b a
both-comm true true = refl
both-comm true false = refl
both-comm false true = refl
both-comm false false = refl

-- a cell of both, whatever is done with it
abbrev shares : Touched → Touched → ℕ → Bool
shares one other c = both (in_runs one.each (firsts_of one) c) (in_runs other.each (firsts_of other) c)

pub meets-is : (one other : Touched) (c : ℕ) → meets_at (cells_in one) (cells_in other) c ≡ both (ways_meet one.way other.way) (shares one other c)
unfolding cells_in ways_meet
meets-is one other c = meets-by (grants 1 one.way) (grants 2 one.way) (grants 1 other.way) (grants 2 other.way) _ _

-- ---- the lowest by a search

-- where a test holds, it is not among those of which none does
at_most : (p : ℕ → Bool) (l k : ℕ) → p l ≡ true → ((c : ℕ) → k ≤ c → p c ≡ false) → l < k
at_most p l k e none = go (ltb l k) refl
  where
    go : (b : Bool) → ltb l k ≡ b → l < k
    go true f = ltb-true l k f
    go false f = absurd (false≢true (sym (none l (ltb-false l k f)) ∙ e))

at_least : (p : ℕ → Bool) (l k : ℕ) → p l ≡ true → ((c : ℕ) → c < k → p c ≡ false) → k ≤ l
at_least p l k e none = go (leb k l) refl
  where
    go : (b : Bool) → leb k l ≡ b → k ≤ l
    go true f = leb-true k l f
    go false f = absurd (false≢true (sym (none l (leb-false k l f)) ∙ e))

one_further : (p : ℕ → Bool) (k : ℕ) → p k ≡ false → ((c : ℕ) → c < k → p c ≡ false) → (c : ℕ) → c < suc k → p c ≡ false
one_further p k e before c h = go (ltb c k) refl
  where
    go : (b : Bool) → ltb c k ≡ b → p c ≡ false
    go true f = before c (ltb-true c k f)
    go false f = let same : c ≡ k = omega (arith, ltb-false c k f) in ap p same ∙ e

pub lowest-search : (p : ℕ → Bool) (n k : ℕ) (m : Meeting) → ((c : ℕ) → c < k → p c ≡ false) → ((c : ℕ) → k + n ≤ c → p c ≡ false) → Lowest p m → m ≡ lowest p k n
unfolding lowest
lowest-search p zero k Never before past h = refl
lowest-search p zero k (At l) before past h =
    absurd (omega (arith, at_least p l k h.0 before, at_most p l k h.0 (λ c g. past c (omega arith))))
lowest-search p (suc n) k m before past h = go (p k) refl m h (lowest-search p n (suc k) m)
  where
    go : (b : Bool) → p k ≡ b → (m : Meeting) → Lowest p m
        → (((c : ℕ) → c < suc k → p c ≡ false) → ((c : ℕ) → suc k + n ≤ c → p c ≡ false) → Lowest p m → m ≡ lowest p (suc k) n)
        → m ≡ pick (p k) (At k) (lowest p (suc k) n)
    go true e Never h on = absurd (false≢true (sym (h k) ∙ e))
    go true e (At l) h on =
        let same : l ≡ k = omega (arith, at_least p l k h.0 before, at_least p k l e h.1) in
        ap At same ∙ sym (pick_yes (p k) (At k) _ e)
    go false e m h on = on (one_further p k e before) (λ c g. past c (omega arith)) h ∙ sym (pick_no (p k) (At k) _ e)

-- where nothing from n on meets, the lowest cell is what a search of n cells finds
pub lowest-is : (p : ℕ → Bool) (n : ℕ) (m : Meeting) → Lowest p m → ((c : ℕ) → n ≤ c → p c ≡ false) → m ≡ lowest p 0 n
lowest-is p n m h past = lowest-search p n 0 m (λ c l. absurd (omega arith)) (λ c g. past c (omega arith)) h

-- ---- the loops

pub lowest-turn : (g : ℕ → Meeting) (xs : List ℕ) (i : ℕ) (found next : Meeting) {x : Meeting} → i < length xs → x ≡ g (get_or xs i 0) → next ≡ lower found x
    → lowest_from g next (drop (i + 1) xs) ≡ lowest_from g found (drop i xs)
unfolding lowest_from
lowest-turn g xs i found next h e f =
    ap (λ (m : Meeting). lowest_from g m (drop (i + 1) xs)) (f ∙ ap (lower found) e) ∙ sym (step (lowest_from g found) xs i h)

pub lowest-end : (g : ℕ → Meeting) (xs : List ℕ) (i : ℕ) (found : Meeting) → length xs ≤ i → lowest_from g found (drop i xs) ≡ lowest_of g xs → found ≡ lowest_of g xs
unfolding lowest_from
lowest-end g xs i found h e = sym (stop (lowest_from g found) xs i h) ∙ e

-- ---- two requests

pub never-meet : (one other : Touched) → ways_meet one.way other.way ≡ false → Lowest (meets_at (cells_in one) (cells_in other)) Never
never-meet one other e = λ c. meets-is one other c ∙ ap (λ (b : Bool). both b (shares one other c)) e

-- the lowest cell of both
abbrev first_shared : Touched → Touched → List ℕ → List ℕ → Meeting
first_shared one other ones others = lowest_of (λ (a : ℕ). lowest_of (shared one.each a other.each) others) ones

pub first-met : (one other : Touched) {ones others : List ℕ} {m : Meeting} → ways_meet one.way other.way ≡ true → ones ≡ firsts_of one → others ≡ firsts_of other
    → m ≡ first_shared other one others ones → Lowest (meets_at (cells_in one) (cells_in other)) m
first-met one other e f g h =
    subst (Lowest (meets_at (cells_in one) (cells_in other))) (sym (h ∙ ap₂ (first_shared other one) g f))
    (lowest-same (shares other one) (meets_at (cells_in one) (cells_in other)) (λ c. both-comm (in_runs other.each (firsts_of other) c) (in_runs one.each (firsts_of one) c) ∙ sym (meets-is one other c ∙ ap (λ (b : Bool). both b (shares one other c)) e))
    (first_shared other one (firsts_of other) (firsts_of one)) (runs-lowest other.each one.each (firsts_of other) (firsts_of one)))
