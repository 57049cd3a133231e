-- Laws of the address check: one turn and the end of its loops, and what a check that found nothing says of every word. Over a run or a
-- list, and through a map, it is the same check. Assumes nothing.
use mathlib.Core.Path.{◌≡◌, refl, sym, ap, ap₂, ◌∙◌}
use mathlib.Core.List.{List, [], ◌∷◌, map}
use mathlib.Core.Bool.{Bool, true, false}
use Prim.Native.Nat.{ℕ, zero, suc, ◌+◌, ◌-◌, ◌≤◌, ◌<◌}
use native.Mathlib.Nat.{add-zero}
use native.Mathlib.Numerals.{add-one}
use native.Mathlib.Omega.{arith}
use lib.Bits.{bit_and, and_le_l, and_comm}
use lib.Dec.{leb}
use lib.ListN.{length, drop, get_or}
use borrow.Author.Tests.{ltb-true, eq-eqb, leb-true, le-leb, lt-leb, le-ltb, lt-ltb}
use Rattle.rules.specs.Choice.{pick, both, between}
use Rattle.rules.proofs.Choose.{both_left, both_right, pick_yes, in-range, is-between}
use Rattle.text_slices.proofs.Walk.{step, stop}
use Rattle.table_addresses.specs.declared.Area.{Area}
use Rattle.table_addresses.specs.declared.Area.TheVariants.{Relays, Registers}
use Rattle.table_registers.specs.declared.Verdict.{Verdict}
use Rattle.table_registers.specs.declared.Verdict.TheVariants.{Granted, Lacking}
use Rattle.table_registers.specs.Table.{grants, in_area, allows, up_from, checked}
use Rattle.table_registers.specs.Bits.{word_of, words_of}

-- ---- runs

pub one_more : (i n : ℕ) → i < n → n - i ≡ suc (n - (i + 1))
one_more i n h = omega arith

pub up_from-length : (k n : ℕ) → length (up_from k n) ≡ n
unfolding up_from
up_from-length k zero = refl
up_from-length k (suc n) = ap suc (up_from-length (suc k) n)

pub up_from-at : (k n j : ℕ) → j < n → get_or (up_from k n) j 0 ≡ k + j
unfolding up_from
up_from-at k zero j h = absurd (omega arith)
up_from-at k (suc n) zero h = sym (add-zero k)
up_from-at k (suc n) (suc j) h = up_from-at (suc k) n j (omega arith) ∙ omega arith

-- ---- the loops

-- the check of what a map gives is a check of what it is given
pub checked-map : (p : ℕ → Bool) (f : ℕ → ℕ) (i : ℕ) (ks : List ℕ) → checked p i (map f ks) ≡ checked (λ (k : ℕ). p (f k)) i ks
unfolding checked
checked-map p f i [] = refl
checked-map p f i (k ∷ ks) = ap (λ (x : Verdict). pick (p (f k)) x (Lacking i)) (checked-map p f (suc i) ks)

pub list-turn : (p : ℕ → Bool) (ks : List ℕ) (i : ℕ) → i < length ks
    → checked p i (drop i ks) ≡ pick (p (get_or ks i 0)) (checked p (i + 1) (drop (i + 1) ks)) (Lacking i)
unfolding checked
list-turn p ks i h =
    step (checked p i) ks i h
    ∙ ap (λ (m : ℕ). pick (p (get_or ks i 0)) (checked p m (drop (i + 1) ks)) (Lacking i)) (sym (add-one i))

pub list-end : (p : ℕ → Bool) (ks : List ℕ) (i : ℕ) → length ks ≤ i → checked p i (drop i ks) ≡ Granted
unfolding checked
list-end p ks i h = stop (checked p i) ks i h

-- the same of what an iterator has left: its next element, and none
pub next-turn : (p : ℕ → Bool) {ks rest : List ℕ} {x i n m : ℕ} {b : Bool} → ks ≡ x ∷ rest → i ≡ n → m ≡ n + 1 → b ≡ p x
    → checked p n ks ≡ pick b (checked p m rest) (Lacking i)
unfolding checked
next-turn p {rest = rest} {x} {i} {n} {m} {b} is at more passes =
    ap (checked p n) is
    ∙ ap₂ (λ (k : ℕ) (t : Bool). pick t (checked p k rest) (Lacking n)) (sym (add-one n) ∙ sym more) (sym passes)
    ∙ ap (λ (j : ℕ). pick b (checked p m rest) (Lacking j)) (sym at)

pub next-none : (p : ℕ → Bool) (n : ℕ) (ks : List ℕ) → length ks ≡ 0 → checked p n ks ≡ Granted
unfolding checked
next-none p n [] h = refl
next-none p n (k ∷ ks) h = absurd (omega arith)

-- the check of a run, said of the start and the length that the definition gives it
pub run-as : (p : ℕ → Bool) {k k' n n' : ℕ} {place : Verdict} → place ≡ checked p 0 (up_from k n) → k ≡ k' → n ≡ n' → place ≡ checked p 0 (up_from k' n')
run-as p e a b = e ∙ ap₂ (λ (x y : ℕ). checked p 0 (up_from x y)) a b

-- a run, from where the code says it starts
pub run-from : (p : ℕ → Bool) (k start n : ℕ) → start ≡ k → checked p 0 (up_from k n) ≡ checked p 0 (up_from start n)
run-from p k start n e = ap (λ (x : ℕ). checked p 0 (up_from x n)) (sym e)

-- a run of cells, from where the code says it starts
pub run-cells : (p : ℕ → Bool) (k cell n : ℕ) → cell ≡ k → checked p 0 (words_of (up_from k n)) ≡ checked (λ (c : ℕ). p (word_of c)) 0 (up_from cell n)
run-cells p k cell n e =
    checked-map p word_of 0 (up_from k n) ∙ ap (λ (x : ℕ). checked (λ (c : ℕ). p (word_of c)) 0 (up_from x n)) (sym e)

-- the words of what a list names
pub list-cells : (p : ℕ → Bool) (f : ℕ → ℕ) (ks : List ℕ) → checked p 0 (words_of (map f ks)) ≡ checked (λ (k : ℕ). p (word_of (f k))) 0 ks
list-cells p f ks = checked-map p word_of 0 (map f ks) ∙ checked-map (λ (c : ℕ). p (word_of c)) f 0 ks

-- ---- which place it is

pick-nowhere : (b : Bool) (x : Verdict) (i : ℕ) → pick b x (Lacking i) ≡ Granted → (b ≡ true) × (x ≡ Granted)
pick-nowhere true x i e = (refl, e)
pick-nowhere false x i e = let z : ◌≡◌ {A = ℕ} 0 1 = cc in absurd (omega arith)

-- where it found nothing, every word passed
pub nowhere : (p : ℕ → Bool) (i : ℕ) (ks : List ℕ) → checked p i ks ≡ Granted → (j : ℕ) → j < length ks → p (get_or ks j 0) ≡ true
unfolding checked
nowhere p i [] e j h = absurd (omega arith)
nowhere p i (k ∷ ks) e zero h = (pick-nowhere _ _ i e).0
nowhere p i (k ∷ ks) e (suc j) h = nowhere p (suc i) ks (pick-nowhere (p k) _ i e).1 j (omega arith)

pub run-nowhere : (p : ℕ → Bool) (k n : ℕ) → checked p 0 (up_from k n) ≡ Granted → (j : ℕ) → j < n → p (k + j) ≡ true
run-nowhere p k n e j h =
    ap p (sym (up_from-at k n j h)) ∙ nowhere p 0 (up_from k n) e j (rw up_from-length h)

-- and where every word of a run passes, it finds nothing
pub run-all : (p : ℕ → Bool) (i k n : ℕ) → ((j : ℕ) → j < n → p (k + j) ≡ true) → checked p i (up_from k n) ≡ Granted
unfolding checked up_from
run-all p i k zero h = refl
run-all p i k (suc n) h =
    let first : p k ≡ true = ap p (sym (add-zero k)) ∙ h 0 (omega arith) in
    pick_yes (p k) _ _ first
    ∙ run-all p (suc i) (suc k) n (λ j l. let e : suc k + j ≡ k + suc j = omega arith in ap p e ∙ h (suc j) (omega arith))

-- ---- words that are allowed

-- the and of what is needed and some attributes is what is needed only where each grants it
pub grants-more : (need acc x : ℕ) → acc ≤ need → bit_and acc x ≡ need → (acc ≡ need) × (grants need x ≡ true)
unfolding grants
grants-more need acc x h e =
    let same : acc ≡ need = omega (arith, and_le_l acc x) in
    (same, eq-eqb (bit_and x need) need (ap (bit_and x) (sym same) ∙ and_comm x acc ∙ e))

-- an area that has two words has those between them
pub area-between : (area : Area) (a b k : ℕ) → in_area area a ≡ true → in_area area b ≡ true → a ≤ k → k ≤ b → in_area area k ≡ true
area-between Relays a b k l h p q = is-between 130 135 k (omega (arith, (in-range 130 135 a l).0)) (omega (arith, (in-range 130 135 b h).1))
area-between Registers a b k l h p q = refl

pub allows-in : (n : ℕ) (us : List ℕ) (area : Area) (need k : ℕ) → allows n us area need k ≡ true → k < n
unfolding allows
allows-in n us area need k e = ltb-true k n (both_left _ _ (both_right (in_area area k) _ e))

-- past the table nothing is
pub allows-past : (n : ℕ) (us : List ℕ) (area : Area) (need k : ℕ) → n ≤ k → allows n us area need k ≡ false
unfolding allows
allows-past n us area need k h = rw (le-ltb k n h) (go (in_area area k))
  where
    go : (b : Bool) → both b false ≡ false
    go true = refl
    go false = refl

-- outside the area nothing is
pub allows-outside : (n : ℕ) (us : List ℕ) (area : Area) (need k : ℕ) → in_area area k ≡ false → allows n us area need k ≡ false
unfolding allows
allows-outside n us area need k e = rw e

-- in the table and the area the attribute decides
pub allows-by : (n : ℕ) (us : List ℕ) (area : Area) (need k : ℕ) → k < n → in_area area k ≡ true → allows n us area need k ≡ grants need (get_or us k 0)
unfolding allows
allows-by n us area need k h e = rw (e, lt-ltb k n h)

-- a run that is allows lies in the table
pub run_in : (n : ℕ) (us : List ℕ) (area : Area) (need k m : ℕ) → checked (allows n us area need) 0 (up_from k m) ≡ Granted → 0 < m → k + m ≤ n
run_in n us area need k m e some =
    let h = allows-in n us area need (k + (m - 1)) (run-nowhere (allows n us area need) k m e (m - 1) (omega arith)) in
    omega arith

-- of a relay word only the attribute is asked
pub relay : (n : ℕ) (us : List ℕ) (need w : ℕ) → 130 ≤ w → w ≤ 135 → allows n us Relays need w ≡ allows n us Registers need w
unfolding allows between
relay n us need w l h = rw (le-leb _ _ l, le-leb _ _ h)

-- past the last relay word no other is left to be this one
pub no-relay : (n : ℕ) (us : List ℕ) (need w k : ℕ) → 135 < k → (130 ≤ w → k ≤ w) → allows n us Relays need w ≡ false
unfolding allows between
no-relay n us need w k h f = go (leb 130 w) refl
  where
    go : (b : Bool) → leb 130 w ≡ b → allows n us Relays need w ≡ false
    go true e = let l = f (leb-true 130 w e) in rw (e, lt-leb w 135 (omega arith))
    go false e = rw e
