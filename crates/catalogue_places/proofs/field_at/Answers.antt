-- The field stands within the value, and the value in the bytes. Assumes nothing.
use mathlib.Core.Path.{◌≡◌, ap, ap₂, ◌∙◌}
use mathlib.Core.List.{List}
use Prim.Native.Nat.{ℕ, ◌+◌}
use native.Mathlib.Omega.{arith}
use lib.ListN.{length}
use Rattle.catalogue_format.specs.Format.{value_of}
use Rattle.catalogue_places.specs.Places.{into-by, wrong_field}
use Rattle.catalogue_places.proofs.Within.{value-within, field-within}
use Rattle.catalogue_places.proofs.field_at.Goals as goal

pub overflow_sub-result : goal.overflow_sub-result
overflow_sub-result c =
    let v = c.value_of-v.result.now in
    let e : length c.wrong_field-f.result.now ≡ length (wrong_field v) = ap length c.wrong_field-f.ensures in
    omega (arith, e, field-within v)

pub returns : goal.returns
returns c =
    let g = c.args.g.now in
    let e : length c.value_of-v.result.now ≡ length (value_of g) = ap length c.value_of-v.ensures in (
      ap₂ (λ (v f : List ℕ). 3 + into-by v f) c.value_of-v.ensures (c.wrong_field-f.ensures ∙ ap wrong_field c.value_of-v.ensures),
      omega (arith, e, value-within g, c.requires),
    )
