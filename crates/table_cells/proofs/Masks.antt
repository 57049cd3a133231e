-- A mask that leaves a word leaves it in that word too; and a register by itself holds 4 at most: so where some word lets a mask write pass, one of 0
-- to 4 does. Assumes nothing.
use Prim.Native.Nat.{ℕ, zero, suc, ◌+◌, ◌-◌, ◌*◌, ◌/◌, ◌%◌, ◌^◌, ◌≤◌, ◌<◌, max, min}
use mathlib.Core.Bool.{Bool, true, false, not, false≢true}
use mathlib.Core.List.{List, [], ◌∷◌}
use mathlib.Core.Path.{◌≡◌, refl, sym, ap, ap₂, ◌∙◌}
use native.Mathlib.Nat.{pow-suc}
use native.Mathlib.Omega.{arith}
use borrow.Author.Tests.{le-leb, lt-ltb, leb-true, leb-false, eqb-true, eqb-false, eq-eqb}
use lib.Arith.{bin_ind}
use lib.Bits.{bit_and, bit_or, and_step, or_step, and_zero_r}
use lib.Dec.{eqb, leb, lit≤}
use lib.ListN.{get_or}
use Rattle.rules.specs.Choice.{pick, both, either, some, between}
use Rattle.rules.proofs.Choose.{both_left, both_right, in-range}
use Rattle.table_registers.specs.declared.Profile.{Profile}
use Rattle.table_registers.specs.declared.Profile.TheVariants.{Free, HlG2}
use Rattle.table_registers.specs.Table.{up_from}
use Rattle.table_registers.specs.Bits.{masked}
use Rattle.table_registers.specs.Profile.{Row, single, pair, within, joined, rows_of, keeps, all_kept}
use Rattle.table_registers.proofs.Lacking.{one_more}
use Rattle.table_registers.proofs.Profiles.{all_same}
use Rattle.table_profiles.specs.declared.Data.TheVariants.{Same}
use Rattle.table_profiles.specs.Runs.{in_run, brings_for, run_taken}
use Rattle.table_profiles.proofs.Judged.{run-has}
use Rattle.table_cells.specs.Touched.{mask_may_pass}

-- ---- tests of a run of numbers

-- two tests, each of which holds where the other does, are one
pub same_test : (a b : Bool) → (a ≡ true → b ≡ true) → (b ≡ true → a ≡ true) → a ≡ b
same_test true b f g = sym (f refl)
same_test false true f g = g refl
same_test false false f g = refl

-- a number of the run of which the test holds
abbrev pub Found : (ℕ → Bool) → ℕ → ℕ → Type 0
Found p k n = (v : ℕ) × (v < k + n) × (p v ≡ true)

pub found_in : (p : ℕ → Bool) (k n : ℕ) → some p (up_from k n) ≡ true → Found p k n
unfolding some up_from
found_in p k zero e = absurd (false≢true e)
found_in p k (suc n) e = go (p k) refl (found_in p (suc k) n) e
  where
    go : (b : Bool) → p k ≡ b → (some p (up_from (suc k) n) ≡ true → Found p (suc k) n) → either (p k) (some p (up_from (suc k) n)) ≡ true → Found p k (suc n)
    go true f on h = (k, omega arith, f)
    go false f on h = let r = on (ap (λ (b : Bool). either b (some p (up_from (suc k) n))) (sym f) ∙ h) in (r.0, omega (arith, r.1), r.2)

pub some_turn : (p : ℕ → Bool) (i n : ℕ) → i < n → some p (up_from i (n - i)) ≡ either (p i) (some p (up_from (i + 1) (n - (i + 1))))
unfolding some up_from
some_turn p i n h =
    let s : suc i ≡ i + 1 = omega arith in
    ap (λ (m : ℕ). some p (up_from i m)) (one_more i n h) ∙ ap (λ (j : ℕ). either (p i) (some p (up_from j (n - (i + 1))))) s

pub some_end : (p : ℕ → Bool) (i n : ℕ) → n ≤ i → some p (up_from i (n - i)) ≡ false
unfolding some up_from
some_end p i n h = let e : n - i ≡ 0 = omega arith in rw e

either_true : (a b : Bool) → b ≡ true → either a b ≡ true
either_true true b e = refl
either_true false b e = e

holds-in : (p : ℕ → Bool) (k n v : ℕ) → k ≤ v → v < k + n → p v ≡ true → some p (up_from k n) ≡ true
unfolding some up_from
holds-in p k zero v l h e = absurd (omega arith)
holds-in p k (suc n) v l h e = go (eqb k v) refl (holds-in p (suc k) n v)
  where
    go : (b : Bool) → eqb k v ≡ b → (suc k ≤ v → v < suc k + n → p v ≡ true → some p (up_from (suc k) n) ≡ true) → either (p k) (some p (up_from (suc k) n)) ≡ true
    go true f on = ap (λ (b : Bool). either b (some p (up_from (suc k) n))) (ap p (eqb-true k v f) ∙ e)
    go false f on = either_true (p k) _ (on (omega (arith, eqb-false k v f)) (omega arith) e)

-- ---- masks

-- a number and what is left of as many ones have no bit in common
apart : (k a : ℕ) → a < 2 ^ k → bit_and (2 ^ k - 1 - a) a ≡ 0
apart zero a h = let z : a ≡ 0 = omega arith in rw z
apart (suc k) a h =
    let p : 2 ^ suc k ≡ 2 ^ k * 2 = pow-suc 2 k in
    let n = 2 ^ k in
    let above : (2 ^ suc k - 1 - a) / 2 ≡ n - 1 - a / 2 = omega (arith, p) in
    let below : min ((2 ^ suc k - 1 - a) % 2) (a % 2) ≡ 0 = omega (arith, p) in
    and_step (2 ^ suc k - 1 - a) a
    ∙ ap₂ (λ (x y : ℕ). x * 2 + y) (ap (λ (x : ℕ). bit_and x (a / 2)) above ∙ apart k (a / 2) (omega (arith, p))) below

lowest-bit : (w a o b : ℕ) → min b a ≡ 0 → min (max (min w a) (min o b)) a ≡ min w a
lowest-bit w a o b e = omega arith

-- an and-mask takes its own bits out of what a mask left
own_bits : (a w o b : ℕ) → bit_and b a ≡ 0 → bit_and (bit_or (bit_and w a) (bit_and o b)) a ≡ bit_and w a
own_bits =
    bin_ind (λ (a : ℕ). (w o b : ℕ) → bit_and b a ≡ 0 → bit_and (bit_or (bit_and w a) (bit_and o b)) a ≡ bit_and w a)
    (λ w o b e. and_zero_r (bit_or (bit_and w 0) (bit_and o b)) ∙ sym (and_zero_r w)) more
  where
    more : (a : ℕ) → ((w o b : ℕ) → bit_and b (a / 2) ≡ 0 → bit_and (bit_or (bit_and w (a / 2)) (bit_and o b)) (a / 2) ≡ bit_and w (a / 2))
        → (w o b : ℕ) → bit_and b a ≡ 0 → bit_and (bit_or (bit_and w a) (bit_and o b)) a ≡ bit_and w a
    more a on w o b e =
        let x = bit_and w a in
        let y = bit_and o b in
        let m = bit_or x y in
        let hx : x ≡ bit_and (w / 2) (a / 2) * 2 + min (w % 2) (a % 2) = and_step w a in
        let hy : y ≡ bit_and (o / 2) (b / 2) * 2 + min (o % 2) (b % 2) = and_step o b in
        let hm : m ≡ bit_or (x / 2) (y / 2) * 2 + max (x % 2) (y % 2) = or_step x y in
        let he : bit_and b a ≡ bit_and (b / 2) (a / 2) * 2 + min (b % 2) (a % 2) = and_step b a in
        let x-high : x / 2 ≡ bit_and (w / 2) (a / 2) = omega (arith, hx) in
        let y-high : y / 2 ≡ bit_and (o / 2) (b / 2) = omega (arith, hy) in
        let x-low : x % 2 ≡ min (w % 2) (a % 2) = omega (arith, hx) in
        let y-low : y % 2 ≡ min (o % 2) (b % 2) = omega (arith, hy) in
        let m-high : m / 2 ≡ bit_or (x / 2) (y / 2) = omega (arith, hm) in
        let m-low : m % 2 ≡ max (x % 2) (y % 2) = omega (arith, hm) in
        let none : min (b % 2) (a % 2) ≡ 0 = omega (arith, he, e) in
        let further : bit_and (b / 2) (a / 2) ≡ 0 = omega (arith, he, e) in
        and_step m a
        ∙ ap₂ (λ (s t : ℕ). s * 2 + t)
        (ap (λ (s : ℕ). bit_and s (a / 2)) (m-high ∙ ap₂ bit_or x-high y-high) ∙ on (w / 2) (o / 2) (b / 2) further)
        (ap (λ (s : ℕ). min s (a % 2)) (m-low ∙ ap₂ max x-low y-low) ∙ lowest-bit (w % 2) (a % 2) (o % 2) (b % 2) none)
        ∙ sym (and_step w a)

pub masked-twice : (w a o : ℕ) → a < 65536 → masked (masked w a o) a o ≡ masked w a o
unfolding masked
masked-twice w a o h = ap (λ (x : ℕ). bit_or x (bit_and o (65535 - a))) (own_bits a w o (65535 - a) (apart 16 a h))

-- ---- one word and a profile

-- a row whose register, if it is one word, holds 4 at most
abbrev narrow : Row → Bool
narrow (single k low high) = leb high 4
narrow (pair k most) = true

abbrev all_narrow : List Row → Bool
all_narrow [] = true
all_narrow (r ∷ rs) = both (narrow r) (all_narrow rs)

-- where a word above 4 is taken, the row has another register: any word is
module _ (k w u : ℕ) (big : 4 < w) where
  row_any : (r : Row) → narrow r ≡ true → keeps (eqb k) (λ _. w) r ≡ true → keeps (eqb k) (λ _. u) r ≡ true
  row_any (single j low high) small e = go (eqb k j) e
    where
      go : (b : Bool) → pick b (between low high w) true ≡ true → pick b (between low high u) true ≡ true
      go true f = absurd (omega (arith, (in-range low high w f).1, leb-true high 4 small))
      go false f = refl
  row_any (pair j most) small e = go (eqb k j) refl e
    where
      go : (b : Bool) → eqb k j ≡ b → pick b (both (eqb k (j + 1)) (within most (joined w w))) (not (eqb k (j + 1))) ≡ true
          → pick b (both (eqb k (j + 1)) (within most (joined u u))) (not (eqb k (j + 1))) ≡ true
      go true f g = absurd (omega (arith, eqb-true k j f, eqb-true k (j + 1) (both_left (eqb k (j + 1)) _ g)))
      go false f g = g

  rows-any : (rs : List Row) → all_narrow rs ≡ true → all_kept (eqb k) (λ _. w) rs ≡ true → all_kept (eqb k) (λ _. u) rs ≡ true
  rows-any [] small e = refl
  rows-any (r ∷ rs) small e =
      ap₂ both (row_any r (both_left (narrow r) _ small) (both_left (keeps (eqb k) (λ _. w) r) _ e))
      (rows-any rs (both_right (narrow r) _ small) (both_right (keeps (eqb k) (λ _. w) r) _ e))

rows-narrow : (p : Profile) → all_narrow (rows_of p) ≡ true
rows-narrow Free = refl
rows-narrow HlG2 = refl

pub run-one : (k j : ℕ) → in_run k 1 j ≡ eqb k j
run-one k j = same_test (in_run k 1 j) (eqb k j)
    (λ e. eq-eqb k j (omega (arith, (run-has k 1 j e).0, (run-has k 1 j e).1)))
    (λ e. let q = eqb-true k j e in rw (le-leb k j (omega arith), lt-ltb (j - k) 1 (omega arith)))

-- what a profile says of one word
taken-one : (p : Profile) (k w : ℕ) (s : List ℕ) → run_taken p (Same w) k 1 s ≡ all_kept (eqb k) (λ _. w) (rows_of p)
unfolding run_taken
taken-one p k w s =
    all_same (in_run k 1) (eqb k) (brings_for (Same w) k 1 s) (λ _. w) (run-one k)
    (λ j e. let z : j - k ≡ 0 = omega (arith, eqb-true k j e) in ap (λ (i : ℕ). get_or (w ∷ []) i 0) z) (rows_of p)

pub taken-any : (p : Profile) (k w u : ℕ) (s : List ℕ) → 4 < w → run_taken p (Same w) k 1 s ≡ true → run_taken p (Same u) k 1 s ≡ true
taken-any p k w u s big e = taken-one p k u s ∙ rows-any k w u big (rows_of p) (rows-narrow p) (sym (taken-one p k w s) ∙ e)

-- ---- the words 0 to 4 are enough

-- a test that holds of some number of a run, if it holds of one below 5 too, may be looked for among those
below-five : (q : ℕ → Bool) (n : ℕ) → 5 ≤ n → ((v : ℕ) → q v ≡ true → some q (up_from 0 5) ≡ true) → some q (up_from 0 5) ≡ some q (up_from 0 n)
below-five q n h f = same_test (some q (up_from 0 5)) (some q (up_from 0 n))
    (λ e. let r = found_in q 0 5 e in holds-in q 0 n r.0 (omega arith) (omega (arith, r.1)) r.2)
    (λ e. let r = found_in q 0 n e in f r.0 r.2)

pub five-enough : (p : Profile) (k a o : ℕ) → a < 65536
    → some (λ (v : ℕ). run_taken p (Same (masked v a o)) k 1 []) (up_from 0 5) ≡ mask_may_pass p k a o
unfolding mask_may_pass
five-enough p k a o h = below-five (λ (v : ℕ). run_taken p (Same (masked v a o)) k 1 []) 65536 (lit≤ tt) (λ v e. go v e (leb (masked v a o) 4) refl)
  where
    go : (v : ℕ) → run_taken p (Same (masked v a o)) k 1 [] ≡ true → (b : Bool) → leb (masked v a o) 4 ≡ b
        → some (λ (v : ℕ). run_taken p (Same (masked v a o)) k 1 []) (up_from 0 5) ≡ true
    go v e true f =
        holds-in (λ (v : ℕ). run_taken p (Same (masked v a o)) k 1 []) 0 5 (masked v a o) (omega arith) (omega (arith, leb-true (masked v a o) 4 f))
        (ap (λ (w : ℕ). run_taken p (Same w) k 1 []) (masked-twice v a o h) ∙ e)
    go v e false f =
        holds-in (λ (v : ℕ). run_taken p (Same (masked v a o)) k 1 []) 0 5 0 (omega arith) (omega arith)
        (taken-any p k (masked v a o) (masked 0 a o) [] (omega (arith, leb-false (masked v a o) 4 f)) e)

-- of one word for all no text is looked at
pub same_taken : (p : Profile) (w k n : ℕ) (s t : List ℕ) → run_taken p (Same w) k n s ≡ run_taken p (Same w) k n t
unfolding run_taken
same_taken p w k n s t = refl

-- ---- the loop

pub some_next : (q : ℕ → Bool) (i n : ℕ) → i < n → q i ≡ false → some q (up_from (i + 1) (n - (i + 1))) ≡ some q (up_from i (n - i))
some_next q i n h e = sym (some_turn q i n h ∙ ap (λ (b : Bool). either b (some q (up_from (i + 1) (n - (i + 1))))) e)

pub some-found : (q : ℕ → Bool) (i n : ℕ) → i < n → q i ≡ true → some q (up_from i (n - i)) ≡ true
some-found q i n h e = some_turn q i n h ∙ ap (λ (b : Bool). either b (some q (up_from (i + 1) (n - (i + 1))))) e

-- a test of one word, as the code makes it
pub tried : (p : Profile) (k a o v m : ℕ) (s : List ℕ) (t b : Bool) → t ≡ run_taken p (Same m) k 1 s → m ≡ masked v a o → t ≡ b
    → run_taken p (Same (masked v a o)) k 1 [] ≡ b
tried p k a o v m s t b e f g = sym (e ∙ same_taken p m k 1 s [] ∙ ap (λ (w : ℕ). run_taken p (Same w) k 1 []) f) ∙ g
