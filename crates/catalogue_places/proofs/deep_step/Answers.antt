-- The field stands within the bytes, its value within the field, and the items within the value. Assumes nothing.
use mathlib.Core.Path.{◌≡◌, ap, ap₂, ◌∙◌}
use mathlib.Core.List.{List}
use Prim.Native.Nat.{ℕ, ◌+◌, ◌≤◌}
use native.Mathlib.Omega.{arith}
use lib.ListN.{length}
use Rattle.catalogue_format.specs.Format.{value_of, after_of}
use Rattle.catalogue_places.specs.Places.{into-by, deep_field}
use Rattle.catalogue_places.proofs.Within.{value-within, after-within, deep-within}
use Rattle.catalogue_places.proofs.deep_step.Goals.{After-after-items}
use Rattle.catalogue_places.proofs.deep_step.Goals as goal

-- the bytes, and how long each part is
module _ (c : After-after-items) where
  abbrev s : List ℕ
  s = c.args.s.now

  abbrev k : ℕ
  k = c.args.k

  abbrev field : List ℕ
  field = c.deep_field-f.result.now

  abbrev value : List ℕ
  value = c.value_of-v.result.now

  abbrev field_fits : length field ≤ length s
  field_fits = let e : length field ≡ length (deep_field k s) = ap length c.deep_field-f.ensures in omega (arith, e, deep-within k s)

  abbrev value-fits : length value ≤ length field
  value-fits = let e : length value ≡ length (value_of field) = ap length c.value_of-v.ensures in omega (arith, e, value-within field)

  abbrev items-fit : length c.after-items.result.now ≤ length value
  items-fit = let e : length c.after-items.result.now ≡ length (after_of value) = ap length c.after-items.ensures in omega (arith, e, after-within value)

  abbrev value-is : value ≡ value_of (deep_field k s)
  value-is = c.value_of-v.ensures ∙ ap value_of c.deep_field-f.ensures

pub overflow_sub-result : goal.overflow_sub-result
overflow_sub-result c = field_fits c

pub overflow_sub-result-2 : goal.overflow_sub-result-2
overflow_sub-result-2 c = items-fit c

pub returns : goal.returns
returns c = (
  ap₂ ◌+◌
      (ap (into-by (s c)) c.deep_field-f.ensures)
      (ap₂ (λ (v i : List ℕ). 3 + into-by v i) (value-is c) (c.after-items.ensures ∙ ap after_of (value-is c))),
  omega (arith, field_fits c, value-fits c, items-fit c, c.requires),
)
