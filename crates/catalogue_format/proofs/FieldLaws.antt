-- A whole field in front of other bytes: its value and what comes after it. Assumes nothing.
use mathlib.Core.Path.{◌≡◌, ap, ap₂, sym, ◌∙◌}
use mathlib.Core.Bool.{true}
use mathlib.Core.List.{List, ◌++◌, append_assoc}
use Prim.Native.Nat.{ℕ, ◌+◌, ◌*◌, ◌-◌, ◌≤◌}
use native.Mathlib.Omega.{arith}
use lib.Dec.{eqb}
use lib.ListN.{length, take, drop, length-drop, take-append-drop, get_or-append}
use lib.Seq.{take-append-le, drop-append-le, drop-drop, length-take-le}
use borrow.Author.Tests.{eqb-true, leb-true}
use Rattle.rules.proofs.Choose.{both_left, both_right}
use Rattle.catalogue_format.specs.Format.{tag_of, size_of, value_of, after_of, is_field, is_name, is_run}

pub field-tag : (tag : ℕ) (s : List ℕ) → is_field tag s ≡ true → tag_of s ≡ tag
unfolding is_field
field-tag tag s h = eqb-true _ _ (both_left _ _ h)

pub field_fits : (tag : ℕ) (s : List ℕ) → is_field tag s ≡ true → 3 + size_of s ≤ length s
unfolding is_field
field_fits tag s h = leb-true _ _ (both_right (eqb (tag_of s) tag) _ h)

pub run-field : (s : List ℕ) → is_run s ≡ true → is_field 2 s ≡ true
unfolding is_run
run-field s h = both_left _ _ h

pub name-field : (s : List ℕ) → is_name s ≡ true → is_field 1 s ≡ true
unfolding is_name
name-field s h = both_left _ _ h

-- the value and what comes after it are all behind the length
pub value_after : (s : List ℕ) → value_of s ++ after_of s ≡ drop 3 s
unfolding value_of after_of
value_after s = ap (λ (t : List ℕ). take (size_of s) (drop 3 s) ++ t) (sym (drop-drop (size_of s) 3 s)) ∙ take-append-drop (size_of s) (drop 3 s)

module _ (a b : List ℕ) (fits : 3 + size_of a ≤ length a) where
  pub same_tag : tag_of (a ++ b) ≡ tag_of a
  same_tag = get_or-append a b 0 0 (omega arith)

  pub same_size : size_of (a ++ b) ≡ size_of a
  same_size = ap₂ (λ (x y : ℕ). x * 256 + y) (get_or-append a b 0 1 (omega arith)) (get_or-append a b 0 2 (omega arith))

  pub same-value : value_of (a ++ b) ≡ value_of a
  unfolding value_of
  same-value =
      ap (λ (n : ℕ). take n (drop 3 (a ++ b))) same_size
      ∙ ap (take (size_of a)) (drop-append-le 3 a b (omega arith))
      ∙ take-append-le (size_of a) (drop 3 a) b (rw length-drop (omega arith))

  pub after-join : after_of (a ++ b) ≡ after_of a ++ b
  unfolding after_of
  after-join = ap (λ (n : ℕ). drop (3 + n) (a ++ b)) same_size ∙ drop-append-le (3 + size_of a) a b fits

  -- what a step into a group leaves
  pub inside-join : drop 3 (a ++ b) ≡ value_of a ++ (after_of a ++ b)
  inside-join = drop-append-le 3 a b (omega arith) ∙ ap (λ (t : List ℕ). t ++ b) (sym (value_after a)) ∙ append_assoc (value_of a) (after_of a) b

pub after-length : (s : List ℕ) → length (after_of s) ≡ length s - (3 + size_of s)
unfolding after_of
after-length s = length-drop (3 + size_of s) s

pub value-length : (s : List ℕ) → 3 + size_of s ≤ length s → length (value_of s) ≡ size_of s
unfolding value_of
value-length s h = length-take-le (size_of s) (drop 3 s) (rw length-drop (omega arith))
