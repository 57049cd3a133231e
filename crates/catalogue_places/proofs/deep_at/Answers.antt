-- The invariant: the place so far and what is still to come make the whole, and there is room for the levels that are left. Assumes nothing.
use mathlib.Core.Path.{◌≡◌, ap}
use Prim.Native.Nat.{ℕ, ◌+◌, ◌-◌, ◌<◌}
use native.Mathlib.Omega.{arith}
use lib.ListN.{length}
use Rattle.catalogue_format.specs.Format.{value_of}
use Rattle.catalogue_places.specs.Places.{deep_field, deep_items, deep_step, deep_at}
use Rattle.catalogue_places.proofs.Within.{value-within, after-within, deep-within, deep-turn, deep-end}
use Rattle.catalogue_places.proofs.deep_at.Goals as goal

pub loop-done-preserved : goal.loop-done-preserved
loop-done-preserved c =
    let at = c.loop-done in
    let left = at.left.now in
    let k = c.args.levels - at.done in
    let more : 0 < k = omega (arith, c.loop-done-test.true) in
    let next : k - 1 ≡ c.args.levels - (at.done + 1) = omega arith in
    let step : c.deep_step-place.result ≡ deep_step k left = c.deep_step-place.ensures.0 in
    let rest : deep_at (k - 1) c.deep_items-next.result.now ≡ deep_at (k - 1) (deep_items k left) = ap (deep_at (k - 1)) c.deep_items-next.ensures in
    let here : deep_at (k - 1) c.deep_items-next.result.now ≡ deep_at (c.args.levels - (at.done + 1)) c.deep_items-next.result.now = ap (λ (j : ℕ). deep_at j c.deep_items-next.result.now) next in
    let size : length c.deep_items-next.result.now ≡ length (deep_items k left) = ap length c.deep_items-next.ensures in (
      omega (arith, step, rest, here, deep-turn k left more, at.invariant.0),
      omega (arith, size, deep-within k left, value-within (deep_field k left), after-within (value_of (deep_field k left)), at.invariant.1),
      omega (arith, more, c.deep_step-place.ensures.1, at.invariant.2),
    )

pub overflow_sub-result : goal.overflow_sub-result
overflow_sub-result c =
    let left = c.loop-done.left.now in
    let size : length c.deep_field-f.result.now ≡ length (deep_field 0 left) = ap length c.deep_field-f.ensures in
    omega (arith, size, deep-within 0 left)

pub returns : goal.returns
returns c =
    let at = c.loop-done in
    let left = at.left.now in
    let none : c.args.levels - at.done ≡ 0 = omega (arith, c.loop-done-test.false) in
    let size : length c.deep_field-f.result.now ≡ length (deep_field 0 left) = ap length c.deep_field-f.ensures in
    let last : deep_at (c.args.levels - at.done) left ≡ deep_at 0 left = ap (λ (k : ℕ). deep_at k left) none in
    omega (arith, size, last, deep-end left, at.invariant.0)
