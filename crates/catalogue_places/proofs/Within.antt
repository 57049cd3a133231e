-- What is found stands within the bytes that were looked at. Assumes nothing.
use mathlib.Core.Bool.{Bool, true, not}
use mathlib.Core.List.{List}
use mathlib.Core.Path.{◌≡◌, refl}
use Prim.Native.Nat.{ℕ, zero, suc, ◌+◌, ◌-◌, ◌≤◌, ◌<◌}
use native.Mathlib.Numerals.{sub-one}
use native.Mathlib.Omega.{arith}
use lib.ListN.{length, length-take, length-drop}
use borrow.Author.Tests.{leb-true, le-leb, lt-leb, eq-eqb}
use Rattle.rules.proofs.Choose.{pick_all, both_left}
use Rattle.catalogue_format.specs.Format.{tag_of, size_of, value_of, after_of, is_name, is_whole}
use Rattle.catalogue_format.specs.Shapes.{into, places_in, siblings, is_item}
use Rattle.catalogue_files.specs.Walks.{deeper_field}
use Rattle.catalogue_format.proofs.Walking.{after-falls, into-falls}
use Rattle.catalogue_places.specs.Places.{first_that, is_fine, wrong_field, wrong_group, deep_field, deep_items, deep_step, deep_at, unwhole_at}
use Rattle.catalogue_places.proofs.Firsts.{found_within}

pub value-within : (s : List ℕ) → length (value_of s) ≤ length s
unfolding value_of
value-within s = rw (length-take, length-drop) (omega arith)

pub after-within : (s : List ℕ) → length (after_of s) ≤ length s
unfolding after_of
after-within s = rw length-drop (omega arith)

pub field-within : (v : List ℕ) → length (wrong_field v) ≤ length v
unfolding wrong_field siblings
field-within v =
    let a : length (after_of v) ≤ length v = after-within v in
    let p : List ℕ → Bool = λ s. not (is_item s) in
    let f : length (first_that p (siblings (after_of v))) ≤ length (after_of v) = found_within after_of after-falls p (after_of v) in
    pick_all (λ (t : List ℕ). length t ≤ length v) (is_name v) (first_that p (siblings (after_of v))) v (λ _. omega (arith, a, f)) (λ _. omega arith)

pub group-within : (s : List ℕ) → length (wrong_group s) ≤ length s
unfolding wrong_group places_in
group-within s = found_within into into-falls (λ (t : List ℕ). not (is_fine t)) s

pub deep-within : (k : ℕ) (s : List ℕ) → length (deep_field k s) ≤ length s
unfolding deep_field siblings
deep-within k s = found_within after_of after-falls (deeper_field k) s

-- a whole file has no more bytes than a file may have
pub whole-small : (s : List ℕ) → is_whole s ≡ true → length s ≤ 65535
unfolding is_whole
whole-small s h = leb-true _ _ (both_left _ _ h)

-- a level further in
pub deep-turn : (k : ℕ) (s : List ℕ) → 0 < k → deep_at k s ≡ deep_step k s + deep_at (k - 1) (deep_items k s)
unfolding deep_at
deep-turn zero s h = absurd (omega arith)
deep-turn (suc k) s h = rw sub-one

pub deep-end : (s : List ℕ) → deep_at 0 s ≡ length s - length (deep_field 0 s)
unfolding deep_at
deep-end s = refl

-- where a group that is not the whole file ends, or the file does before it
module _ (s : List ℕ) (end : ℕ) (small : length s ≤ 65535) (tag : tag_of s ≡ 3) (is : end ≡ 3 + size_of s) where
  pub ends-inside : end ≤ length s → end ≡ unwhole_at s
  unfolding unwhole_at
  ends-inside h = rw (le-leb _ _ small, eq-eqb _ _ tag, ← is, le-leb _ _ h)

  pub ends-behind : length s < end → length s ≡ unwhole_at s
  unfolding unwhole_at
  ends-behind h = rw (le-leb _ _ small, eq-eqb _ _ tag, ← is, lt-leb _ _ h)
