-- What stands at an address after the runs of a chain are put: as no two of them meet, the one that has it. Assumes nothing.
use mathlib.Core.Path.{◌≡◌, refl, ap, ap₂, sym, ◌∙◌}
use mathlib.Core.Bool.{Bool, true, false, not, false≢true}
use mathlib.Core.List.{List, [], ◌∷◌}
use Prim.Native.Nat.{ℕ, ◌+◌, ◌-◌, ◌≤◌, ◌<◌}
use native.Mathlib.Omega.{arith}
use lib.Dec.{leb, ltb}
use lib.ListN.{length, get_or, replicate, length-replicate, get_or-replicate}
use borrow.Author.Tests.{leb-true, leb-false, ltb-true, ltb-false, le-leb, lt-ltb, not-true}
use Rattle.rules.specs.Choice.{pick, both, same_bytes, some}
use Rattle.rules.specs.Tests.{◌unless◌, first}
use Rattle.rules.specs.Given.{gives, refused}
use Rattle.text_rooms.specs.Room.{overwrite}
use Rattle.rules.proofs.Choose.{both_left, both_right, pick_yes, pick_no, no-left, no-right}
use Rattle.rules.proofs.Tests.{passed}
use Rattle.text_rooms.proofs.Overwrite.{overwrite-length, overwrite-below, overwrite-within, overwrite-above}
use Rattle.table_addresses.specs.Catalogue.{table_limit}
use Rattle.catalogue_format.specs.declared.Run.{Run}
use Rattle.catalogue_format.specs.Format.{Items, Reading, reads}
use Rattle.catalogue_files.specs.Refusals.{some_pair, deeper, groups_of, own, meets, meets_inside, beyond, unfit, names_of, chain, paint, painted, filled, tests, Outcome, settled, outcome_up_to, outcome}
use Rattle.catalogue_files.specs.Statements.{has, attribute_at, FilledByAddress, AnyOrder}
use Rattle.catalogue_format.proofs.Bools.{by-test}
use Rattle.catalogue_files.proofs.Chains.{In, here, there, none_in, chain-in, chain-apart}
use Rattle.catalogue_files.proofs.Entry.{from-21, from-22, from-23, from-24, all-passed, bytes-filled}

-- ---- one write

paint-at : (bytes : List ℕ) (r : Run) (k : ℕ) → r.first + r.count ≤ length bytes → get_or (paint bytes r) k 0 ≡ pick (has k r) r.attribute (get_or bytes k 0)
unfolding paint has
paint-at bytes r k h =
    let l : length (replicate r.count r.attribute) ≡ r.count = length-replicate r.count r.attribute in
    let fits : r.first + length (replicate r.count r.attribute) ≤ length bytes = omega arith in
    ap (λ (b : List ℕ). get_or b k 0) (pick_yes (leb (r.first + r.count) (length bytes)) _ _ (le-leb _ _ h))
    ∙ by-test (leb r.first k)
    (λ a. by-test (ltb k (r.first + r.count))
    (λ b.
    let p = leb-true r.first k a in
    let q = ltb-true k (r.first + r.count) b in
    overwrite-within bytes (replicate r.count r.attribute) r.first k fits p (omega arith)
    ∙ get_or-replicate r.count (k - r.first) r.attribute 0 (omega arith)
    ∙ sym (pick_yes (both (leb r.first k) (ltb k (r.first + r.count))) _ _ (ap₂ both a b)))
    (λ b.
    let q = ltb-false k (r.first + r.count) b in
    overwrite-above bytes (replicate r.count r.attribute) r.first k fits (omega arith)
    ∙ sym (pick_no (both (leb r.first k) (ltb k (r.first + r.count))) _ _ (ap₂ both a b))))
    (λ a.
    let p = leb-false r.first k a in
    overwrite-below bytes (replicate r.count r.attribute) r.first k fits p
    ∙ sym (pick_no (both (leb r.first k) (ltb k (r.first + r.count))) _ _ (ap (λ (u : Bool). both u (ltb k (r.first + r.count))) a)))

paint-length : (bytes : List ℕ) (r : Run) → r.first + r.count ≤ length bytes → length (paint bytes r) ≡ length bytes
unfolding paint
paint-length bytes r h =
    let l : length (replicate r.count r.attribute) ≡ r.count = length-replicate r.count r.attribute in
    let fits : r.first + length (replicate r.count r.attribute) ≤ length bytes = omega arith in
    ap length (pick_yes (leb (r.first + r.count) (length bytes)) (overwrite bytes r.first (replicate r.count r.attribute)) bytes (le-leb _ _ h))
    ∙ overwrite-length bytes (replicate r.count r.attribute) r.first fits

-- ---- runs that do not meet

-- two runs that have one address meet
share : (r q : Run) (k : ℕ) → has k r ≡ true → has k q ≡ true → meets r q ≡ true
unfolding has meets
share r q k a b =
    let a1 = leb-true r.first k (both_left _ _ a) in
    let a2 = ltb-true k (r.first + r.count) (both_right (leb r.first k) _ a) in
    let b1 = leb-true q.first k (both_left _ _ b) in
    let b2 = ltb-true k (q.first + q.count) (both_right (leb q.first k) _ b) in
    let x : r.first < q.first + q.count = omega arith in
    let y : q.first < r.first + r.count = omega arith in
    ap₂ both (lt-ltb _ _ x) (lt-ltb _ _ y)

none_has : (r : Run) (k : ℕ) (rs : List Run) (d : ℕ) → has k r ≡ true → some (meets r) rs ≡ false → attribute_at k rs d ≡ d
unfolding attribute_at some
none_has r k [] d h m = refl
none_has r k (q ∷ rs) d h m =
    by-test (has k q)
    (λ e. absurd (false≢true (sym (no-left (meets r q) (some (meets r) rs) m) ∙ share r q k h e)))
    (λ e. pick_no (has k q) _ _ e ∙ none_has r k rs d h (no-right (meets r q) (some (meets r) rs) m))

painted-at : (rs : List Run) (bytes : List ℕ) (k : ℕ) → ((r : Run) → In r rs → r.first + r.count ≤ length bytes) → some_pair meets rs ≡ false → get_or (painted bytes rs) k 0 ≡ attribute_at k rs (get_or bytes k 0)
unfolding painted attribute_at some_pair
painted-at [] bytes k f m = refl
painted-at (r ∷ rs) bytes k f m =
    let h : r.first + r.count ≤ length bytes = f r (here r rs) in
    let l = paint-length bytes r h in
    painted-at rs (paint bytes r) k (λ q i. let g = f q (there q r rs i) in omega arith) (no-right (some (meets r) rs) (some_pair meets rs) m)
    ∙ ap (attribute_at k rs) (paint-at bytes r k h)
    ∙ by-test (has k r)
    (λ e. ap (attribute_at k rs) (pick_yes (has k r) r.attribute (get_or bytes k 0) e) ∙ none_has r k rs r.attribute e (no-left (some (meets r) rs) (some_pair meets rs) m) ∙ sym (pick_yes (has k r) r.attribute (attribute_at k rs (get_or bytes k 0)) e))
    (λ e. ap (attribute_at k rs) (pick_no (has k r) r.attribute (get_or bytes k 0) e) ∙ sym (pick_no (has k r) r.attribute (attribute_at k rs (get_or bytes k 0)) e))

-- ---- a file that is taken

module _ (asked : List ℕ) (n : ℕ) (t : Items) (fine : first refused (tests table_limit (reads t) asked n) (gives 0) ≡ gives 0) where
  past-21 : first refused (from-22 asked n t) (gives 0) ≡ gives 0
  unfolding tests
  past-21 =
      let past-1 = (passed 1 (leb n table_limit) ((20 unless true) ∷ from-21 asked n t) 0 0 fine).1 in
      (passed 21 (not (deeper 4 t)) (from-22 asked n t) 0 0 (passed 20 true (from-21 asked n t) 0 0 past-1).1).1

  no-22 : unfit n t ≡ false
  no-22 = not-true (unfit n t) (passed 22 (not (unfit n t)) (from-23 asked t) 0 0 past-21).0

  no-23 : some_pair same_bytes (names_of t) ≡ false
  no-23 = not-true (some_pair same_bytes (names_of t)) (passed 23 (not (some_pair same_bytes (names_of t))) (from-24 asked t) 0 0 (passed 22 (not (unfit n t)) (from-23 asked t) 0 0 past-21).1).0

  runs-apart : some_pair meets (chain asked (groups_of t)) ≡ false
  runs-apart = chain-apart asked t (no-left _ (some (beyond n) (groups_of t)) no-22) no-23

  runs_fit : (r : Run) → In r (chain asked (groups_of t)) → r.first + r.count ≤ n
  unfolding beyond
  runs_fit r i =
      let l = chain-in asked (groups_of t) r i in
      let b : beyond n l.of ≡ false = none_in (beyond n) l.of (groups_of t) (no-right (some meets_inside (groups_of t)) (some (beyond n) (groups_of t)) no-22) l.among in
      ltb-false n (r.first + r.count) (none_in (λ (q : Run). ltb n (q.first + q.count)) r (own l.of.items) b l.has)

  filled_at : (k : ℕ) → k < n → get_or (filled asked t n) k 0 ≡ attribute_at k (chain asked (groups_of t)) 0
  filled_at k h =
      let z : length (replicate {A = ℕ} n 0) ≡ n = length-replicate n 0 in
      painted-at (chain asked (groups_of t)) (replicate n 0) k (λ r i. let f = runs_fit r i in omega arith) runs-apart
      ∙ ap (attribute_at k (chain asked (groups_of t))) (get_or-replicate n k 0 0 h)

pub by_address : FilledByAddress
unfolding outcome_up_to
by_address file asked lent t e z =
    let o : outcome file asked lent ≡ settled table_limit (reads t) asked lent = ap (λ (r : Reading). settled table_limit r asked lent) e in
    let y : (settled table_limit (reads t) asked lent).number ≡ gives 0 = sym (ap (λ (x : Outcome). x.number) o) ∙ z in
    let fine = all-passed table_limit (reads t) asked lent y in
    let b : (outcome file asked lent).bytes ≡ filled asked t (length lent) = ap (λ (x : Outcome). x.bytes) o ∙ bytes-filled table_limit (reads t) asked lent y in
    record { apart = runs-apart asked (length lent) t fine; each = λ k l. ap (λ (x : List ℕ). get_or x k 0) b ∙ filled_at asked (length lent) t fine k l }

-- ---- any order

swap : (s t : Bool) (x y z : ℕ) → (s ≡ true → t ≡ true → ⊥) → pick s x (pick t y z) ≡ pick t y (pick s x z)
swap true true x y z n = absurd (n refl refl)
swap true false x y z n = refl
swap false true x y z n = refl
swap false false x y z n = refl

pub any_order : AnyOrder
unfolding attribute_at
any_order k [] r q after d h = swap (has k r) (has k q) r.attribute q.attribute (attribute_at k after d) (λ a b. false≢true (sym h ∙ share r q k a b))
any_order k (p ∷ ps) r q after d h = ap (λ (n : ℕ). pick (has k p) p.attribute n) (any_order k ps r q after d h)
