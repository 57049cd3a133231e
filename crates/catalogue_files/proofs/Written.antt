-- Reading the bytes of what a file says gives that back. Assumes nothing.
use mathlib.Core.Path.{◌≡◌, refl, ap, ap₂, sym, ◌∙◌}
use mathlib.Core.Bool.{true, false}
use mathlib.Core.List.{List, [], ◌++◌}
use Prim.Native.Nat.{ℕ, zero, suc, ◌+◌, ◌≤◌}
use native.Mathlib.Nat.{div-add-mod'}
use native.Mathlib.Omega.{arith}
use lib.Dec.{eqb, leb}
use lib.ListN.{length, take, drop, length-append}
use lib.Seq.{take-append_seam, drop-append_seam, drop-drop}
use borrow.Author.Tests.{eq-eqb, ne_eqb, le-leb}
use Rattle.rules.specs.Choice.{both, between, all_between}
use Rattle.rules.proofs.Choose.{pick_yes, pick_no}
use Rattle.catalogue_format.specs.declared.Run.{Run}
use Rattle.catalogue_format.specs.Format.{Items, none, run, group, reads, size_of, value_of, after_of, is_field, is_name, is_run, is_group, run_of, with_run, with_group, read_items, is_whole, read_file}
use Rattle.catalogue_files.specs.Writing.{field, run_bytes, bytes_of, Sound}
use Rattle.catalogue_files.specs.Statements.{ReadsBack}
use Rattle.catalogue_format.proofs.Bools.{no_both}

module _ (tag : ℕ) (v rest : List ℕ) where
  size-written : size_of (field tag v ++ rest) ≡ length v
  size-written = div-add-mod' (length v) 256

  value_written : value_of (field tag v ++ rest) ≡ v
  unfolding value_of
  value_written = ap (λ (k : ℕ). take k (v ++ rest)) size-written ∙ take-append_seam v rest

  after-written : after_of (field tag v ++ rest) ≡ rest
  unfolding after_of
  after-written =
      sym (drop-drop (size_of (field tag v ++ rest)) 3 (field tag v ++ rest))
      ∙ ap (λ (k : ℕ). drop k (v ++ rest)) size-written
      ∙ drop-append_seam v rest

  length-written : length (field tag v ++ rest) ≡ 3 + (length v + length rest)
  length-written = let e = length-append v rest in omega arith

  field-written : is_field tag (field tag v ++ rest) ≡ true
  unfolding is_field
  field-written =
      let l = length-written in
      let e = size-written in
      let h : 3 + size_of (field tag v ++ rest) ≤ length (field tag v ++ rest) = omega arith in
      ap₂ both (eq-eqb tag tag refl) (le-leb _ _ h)

  other-written : (other : ℕ) → (tag ≡ other → ⊥) → is_field other (field tag v ++ rest) ≡ false
  unfolding is_field
  other-written other h = sym (no_both _ _ (ne_eqb tag other h))

name-written : (n rest : List ℕ) → between 1 32 (length n) ≡ true → all_between 32 126 n ≡ true → is_name (field 1 n ++ rest) ≡ true
unfolding is_name
name-written n rest h k =
    ap₂ both (field-written 1 n rest) (ap₂ both (ap (between 1 32) (size-written 1 n rest) ∙ h) (ap (all_between 32 126) (value_written 1 n rest) ∙ k))

run-of-written : (r : Run) (rest : List ℕ) → run_of (field 2 (run_bytes r) ++ rest) ≡ r
run-of-written r rest = ap₂ (λ (f c : ℕ). made f c r.attribute) (div-add-mod' r.first 256) (div-add-mod' r.count 256)
  where
    made : ℕ → ℕ → ℕ → Run
    made f c a = record { first = f; count = c; attribute = a }

run-written : (r : Run) (rest : List ℕ) → 1 ≤ r.count → r.attribute ≤ 3 → is_run (field 2 (run_bytes r) ++ rest) ≡ true
unfolding is_run
run-written r rest h k =
    let e = run-of-written r rest in
    ap₂ both (field-written 2 (run_bytes r) rest)
    (ap₂ both (ap (λ (x : ℕ). eqb x 5) (size-written 2 (run_bytes r) rest)) (ap₂ both (ap (λ (q : Run). leb 1 q.count) e ∙ le-leb _ _ h) (ap (λ (q : Run). leb q.attribute 3) e ∙ le-leb _ _ k)))

not-run : (v rest : List ℕ) → is_run (field 3 v ++ rest) ≡ false
unfolding is_run
not-run v rest =
    let ne : ◌≡◌ {A = ℕ} 3 2 → ⊥ = λ e. omega arith in
    sym (no_both _ _ (other-written 3 v rest 2 ne))

pub reads-back : (t : Items) (m : ℕ) → length (bytes_of t) ≤ m → Sound t → read_items m (bytes_of t) ≡ reads t
unfolding bytes_of read_items
reads-back none zero h s = refl
reads-back none (suc m) h s = refl
reads-back (run r t) zero h s = absurd (let e = length-written 2 (run_bytes r) (bytes_of t) in omega arith)
reads-back (run r t) (suc m) h s =
    let l = length-written 2 (run_bytes r) (bytes_of t) in
    let a : List ℕ = field 2 (run_bytes r) ++ bytes_of t in
    pick_yes (is_run a) _ _ (run-written r (bytes_of t) s.0 s.1)
    ∙ ap₂ (λ (q : Run) (u : List ℕ). with_run q (read_items m u)) (run-of-written r (bytes_of t)) (after-written 2 (run_bytes r) (bytes_of t))
    ∙ ap (with_run r) (reads-back t m (omega arith) s.2)
reads-back (group n i t) zero h s = absurd (let e = length-written 3 (field 1 n ++ bytes_of i) (bytes_of t) in omega arith)
reads-back (group n i t) (suc m) h s =
    let v : List ℕ = field 1 n ++ bytes_of i in
    let a : List ℕ = field 3 v ++ bytes_of t in
    let l = length-written 3 v (bytes_of t) in
    let k = length-written 1 n (bytes_of i) in
    let ev : value_of a ≡ v = value_written 3 v (bytes_of t) in
    pick_no (is_run a) _ _ (not-run v (bytes_of t))
    ∙ pick_yes (both (is_group a) (is_name (value_of a))) _ _ (ap₂ both (field-written 3 v (bytes_of t)) (ap is_name ev ∙ name-written n (bytes_of i) s.0 s.1))
    ∙ ap₂ (λ (u w : List ℕ). with_group (value_of u) (read_items m (after_of u)) (read_items m w)) ev (after-written 3 v (bytes_of t))
    ∙ ap₂ (λ (u w : List ℕ). with_group u (read_items m w) (read_items m (bytes_of t))) (value_written 1 n (bytes_of i)) (after-written 1 n (bytes_of i))
    ∙ ap₂ (with_group n) (reads-back i m (omega arith) s.2) (reads-back t m (omega arith) s.3)

-- a file of one group that is not too long is read as that group
pub file-reads-back : ReadsBack
unfolding read_file is_whole bytes_of
file-reads-back n i h s =
    let v : List ℕ = field 1 n ++ bytes_of i in
    let l = length-written 3 v [] in
    let z = size-written 3 v [] in
    let e : 3 + size_of (field 3 v ++ []) ≡ length (field 3 v ++ []) = omega arith in
    let w : is_whole (bytes_of (group n i none)) ≡ true = ap₂ both (le-leb _ _ h) (ap₂ both (field-written 3 v []) (eq-eqb _ _ e)) in
    pick_yes (is_whole (bytes_of (group n i none))) _ _ w ∙ reads-back (group n i none) (length (bytes_of (group n i none))) (omega arith) s
