-- Levels of groups along the bytes, and that they are those of what the bytes say. Assumes nothing.
use mathlib.Core.Path.{◌≡◌, refl, ap, ap₂, sym, ◌∙◌}
use mathlib.Core.Bool.{Bool, true, false}
use mathlib.Core.List.{List, []}
use Prim.Native.Nat.{ℕ, zero, suc, ◌-◌, ◌<◌}
use native.Mathlib.Nat.{suc-ne-zero}
use native.Mathlib.Numerals.{sub-one}
use native.Mathlib.Omega.{arith}
use lib.ListN.{length}
use borrow.Author.Tests.{eq-eqb, ne_eqb}
use Rattle.rules.specs.Choice.{either, some}
use Rattle.catalogue_format.specs.Format.{Items, tag_of, value_of, after_of}
use Rattle.catalogue_files.specs.Refusals.{deeper}
use Rattle.catalogue_files.specs.Walks.{deeper_field, deeper_in}
use Rattle.catalogue_format.proofs.Bools.{no_both, so-both}
use Rattle.catalogue_format.proofs.Walking.{next-sibling, no-sibling}
use Rattle.catalogue_format.proofs.FieldLaws.{field-tag, field_fits, run-field}
use Rattle.catalogue_files.proofs.Said.{Says, nothing, a-run, a-group}

pub deeper-none : (k : ℕ) (s : List ℕ) → length s ≡ 0 → deeper_in k s ≡ false
unfolding deeper_in some
deeper-none k s h = ap (some (deeper_field k)) (no-sibling s h)

pub deeper-next : (k : ℕ) (s : List ℕ) → 0 < length s → deeper_in k s ≡ either (deeper_field k s) (deeper_in k (after_of s))
unfolding deeper_in some
deeper-next k s h = ap (some (deeper_field k)) (next-sibling s h)

pub not-group : (k : ℕ) (s : List ℕ) → (tag_of s ≡ 3 → ⊥) → false ≡ deeper_field k s
unfolding deeper_field
not-group zero s h = sym (ne_eqb (tag_of s) 3 h)
not-group (suc k) s h = no_both _ _ (ne_eqb (tag_of s) 3 h)

pub last-level : (k : ℕ) (s : List ℕ) → tag_of s ≡ 3 → k ≡ 0 → true ≡ deeper_field k s
unfolding deeper_field
last-level zero s h e = sym (eq-eqb (tag_of s) 3 h)
last-level (suc k) s h e = absurd (suc-ne-zero k e)

pub one-level : (k : ℕ) (s : List ℕ) → tag_of s ≡ 3 → (k ≡ 0 → ⊥) → deeper_in (k - 1) (after_of (value_of s)) ≡ deeper_field k s
unfolding deeper_field deeper_in
one-level zero s h e = absurd (e refl)
one-level (suc k) s h e = so-both _ _ _ (eq-eqb (tag_of s) 3 h) (rw sub-one)

pub depth-said : (k : ℕ) (a : List ℕ) (t : Items) → Says a t → deeper_in k a ≡ deeper k t
unfolding deeper
depth-said zero _ _ nothing = deeper-none 0 [] refl
depth-said (suc k) _ _ nothing = deeper-none (suc k) [] refl
depth-said k _ _ (a-run a t r s) =
    let f = run-field a r in
    let fits = field_fits 2 a f in
    let e = field-tag 2 a f in
    let no3 : tag_of a ≡ 3 → ⊥ = λ z. omega arith in
    deeper-next k a (omega arith) ∙ ap₂ either (sym (not-group k a no3)) (depth-said k (after_of a) t s)
depth-said zero _ _ (a-group a i t g n s r) =
    let fits = field_fits 3 a g in
    deeper-next 0 a (omega arith) ∙ ap (λ (b : Bool). either b (deeper_in 0 (after_of a))) (sym (last-level 0 a (field-tag 3 a g) refl))
depth-said (suc k) _ _ (a-group a i t g n s r) =
    let fits = field_fits 3 a g in
    let e : deeper_in k (after_of (value_of a)) ≡ deeper_field (suc k) a = rw sub-one at (one-level (suc k) a (field-tag 3 a g) (suc-ne-zero k)) in
    deeper-next (suc k) a (omega arith) ∙ ap₂ either (sym e ∙ depth-said k (after_of (value_of a)) i s) (depth-said (suc k) (after_of a) t r)
