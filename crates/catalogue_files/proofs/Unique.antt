-- A file says what it says in one way only: the bytes of what is read are the file. Assumes nothing.
use mathlib.Core.Path.{◌≡◌, refl, ap, ap₂, sym, ◌∙◌}
use mathlib.Core.Bool.{true}
use mathlib.Core.List.{List, [], ◌∷◌, ◌++◌}
use Prim.Native.Nat.{ℕ, ◌+◌, ◌*◌, ◌/◌, ◌%◌, ◌≤◌, ◌<◌}
use native.Mathlib.Omega.{arith}
use lib.Dec.{eqb}
use lib.ListN.{length, drop, get_or}
use lib.Seq.{get_or-take, get_or-drop}
use borrow.Author.Tests.{eqb-true}
use Rattle.rules.specs.Choice.{all_between}
use Rattle.rules.proofs.Choose.{both_left, both_right}
use Rattle.catalogue_format.specs.Format.{Items, size_of, value_of, after_of, is_field, is_run, run_of}
use Rattle.catalogue_files.specs.Writing.{field, run_bytes, bytes_of}
use Rattle.catalogue_files.specs.Statements.{ReadsOnly}
use Rattle.catalogue_format.proofs.FieldLaws.{field-tag, field_fits, run-field, name-field, value-length, value_after}
use Rattle.catalogue_files.proofs.Ranges.{all_take, all_drop, all-at}
use Rattle.catalogue_files.proofs.Said.{Says, nothing, a-run, a-group, file-said}

-- ---- two bytes and their number

high : (h l : ℕ) → l ≤ 255 → (h * 256 + l) / 256 ≡ h
high h l e = omega arith

low : (h l : ℕ) → l ≤ 255 → (h * 256 + l) % 256 ≡ l
low h l e = omega arith

-- ---- the first elements

three : (a : List ℕ) → 3 ≤ length a → a ≡ get_or a 0 0 ∷ get_or a 1 0 ∷ get_or a 2 0 ∷ drop 3 a
three [] h = absurd (omega arith)
three (x ∷ []) h = absurd (omega arith)
three (x ∷ y ∷ []) h = absurd (omega arith)
three (x ∷ y ∷ z ∷ t) h = refl

five : (v : List ℕ) → length v ≡ 5 → v ≡ get_or v 0 0 ∷ get_or v 1 0 ∷ get_or v 2 0 ∷ get_or v 3 0 ∷ get_or v 4 0 ∷ []
five [] h = absurd (omega arith)
five (a ∷ []) h = absurd (omega arith)
five (a ∷ b ∷ []) h = absurd (omega arith)
five (a ∷ b ∷ c ∷ []) h = absurd (omega arith)
five (a ∷ b ∷ c ∷ d ∷ []) h = absurd (omega arith)
five (a ∷ b ∷ c ∷ d ∷ e ∷ []) h = refl
five (a ∷ b ∷ c ∷ d ∷ e ∷ f ∷ t) h = absurd (omega arith)

headed : (x x' y y' z z' : ℕ) (t t' : List ℕ) → x ≡ x' → y ≡ y' → z ≡ z' → t ≡ t' → x ∷ y ∷ z ∷ t ≡ x' ∷ y' ∷ z' ∷ t'
headed x x' y y' z z' t t' p q r s = cc

-- ---- a field

abbrev Bytes : List ℕ → Type 0
Bytes a = all_between 0 255 a ≡ true

value-bytes : (a : List ℕ) → Bytes a → Bytes (value_of a)
unfolding value_of
value-bytes a b = all_take 0 255 (size_of a) (drop 3 a) (all_drop 0 255 3 a b)

after-bytes : (a : List ℕ) → Bytes a → Bytes (after_of a)
unfolding after_of
after-bytes a b = all_drop 0 255 (3 + size_of a) a b

field_back : (tag : ℕ) (a : List ℕ) → Bytes a → is_field tag a ≡ true → field tag (value_of a) ++ after_of a ≡ a
field_back tag a b h =
    let fits = field_fits tag a h in
    let l = value-length a fits in
    let small = all-at 255 a 2 b in
    headed tag (get_or a 0 0) (length (value_of a) / 256) (get_or a 1 0) (length (value_of a) % 256) (get_or a 2 0) (value_of a ++ after_of a) (drop 3 a) (sym (field-tag tag a h))
    (ap (λ (n : ℕ). n / 256) l ∙ high (get_or a 1 0) (get_or a 2 0) small) (ap (λ (n : ℕ). n % 256) l ∙ low (get_or a 1 0) (get_or a 2 0) small) (value_after a)
    ∙ sym (three a (omega arith))

value-at : (a : List ℕ) (k : ℕ) → k < size_of a → get_or (value_of a) k 0 ≡ get_or a (3 + k) 0
unfolding value_of
value-at a k h = get_or-take (size_of a) (drop 3 a) k 0 h ∙ get_or-drop 3 a k 0

run-back : (a : List ℕ) → Bytes a → is_run a ≡ true → run_bytes (run_of a) ≡ value_of a
unfolding is_run
run-back a b h =
    let z : size_of a ≡ 5 = eqb-true _ _ (both_left (eqb (size_of a) 5) _ (both_right (is_field 2 a) _ h)) in
    let l : length (value_of a) ≡ 5 = value-length a (field_fits 2 a (run-field a h)) ∙ z in
    headed _ _ _ _ _ _ _ _
    (high (get_or a 3 0) (get_or a 4 0) (all-at 255 a 4 b) ∙ sym (value-at a 0 (omega arith)))
    (low (get_or a 3 0) (get_or a 4 0) (all-at 255 a 4 b) ∙ sym (value-at a 1 (omega arith)))
    (high (get_or a 5 0) (get_or a 6 0) (all-at 255 a 6 b) ∙ sym (value-at a 2 (omega arith)))
    (ap₂ (λ (x y : ℕ). x ∷ y ∷ []) (low (get_or a 5 0) (get_or a 6 0) (all-at 255 a 6 b) ∙ sym (value-at a 3 (omega arith))) (sym (value-at a 4 (omega arith))))
    ∙ sym (five (value_of a) l)

-- ---- what is said

says-only : (a : List ℕ) (t : Items) → Says a t → Bytes a → bytes_of t ≡ a
unfolding bytes_of
says-only _ _ nothing b = refl
says-only _ _ (a-run a t r s) b = ap₂ (λ (v w : List ℕ). field 2 v ++ w) (run-back a b r) (says-only (after_of a) t s (after-bytes a b)) ∙ field_back 2 a b (run-field a r)
says-only _ _ (a-group a i t g n s r) b =
    let v : List ℕ = value_of a in
    let c : Bytes v = value-bytes a b in
    let e : field 1 (value_of v) ++ bytes_of i ≡ v = ap (λ (w : List ℕ). field 1 (value_of v) ++ w) (says-only (after_of v) i s (after-bytes v c)) ∙ field_back 1 v c (name-field v n) in
    ap₂ (λ (x w : List ℕ). field 3 x ++ w) e (says-only (after_of a) t r (after-bytes a b)) ∙ field_back 3 a b g

pub reads_only : ReadsOnly
reads_only file t b e = says-only file t (file-said file t e) b
