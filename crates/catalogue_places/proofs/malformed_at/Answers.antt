-- A file that is whole has no more bytes than a file may have. Assumes nothing.
use mathlib.Core.Path.{◌≡◌, sym, ap, ap₂, ◌∙◌}
use mathlib.Core.Bool.{true}
use mathlib.Core.List.{List}
use Prim.Native.Nat.{ℕ, ◌+◌}
use native.Mathlib.Omega.{arith}
use lib.ListN.{length}
use Rattle.rules.proofs.Choose.{via, pick_yes, pick_no}
use Rattle.catalogue_format.specs.Format.{is_whole}
use Rattle.catalogue_places.specs.Places.{into-by, field_at, wrong_group, malformed_at}
use Rattle.catalogue_places.proofs.Within.{group-within, whole-small}
use Rattle.catalogue_places.proofs.malformed_at.Goals.{After-wrong_group-g}
use Rattle.catalogue_places.proofs.malformed_at.Goals as goal

-- the file, and that it is whole
module _ (c : After-wrong_group-g) where
  abbrev file : List ℕ
  file = c.args.s.now

  abbrev whole : is_whole file ≡ true
  whole = via c.is_whole.ensures c.if-not-is_whole.false

pub returns-then-not-is_whole : goal.returns-then-not-is_whole
unfolding malformed_at
returns-then-not-is_whole c = c.unwhole_at.ensures ∙ sym (pick_no (is_whole _) _ _ (via c.is_whole.ensures c.if-not-is_whole.true))

pub overflow_sub-result : goal.overflow_sub-result
overflow_sub-result c =
    let e : length c.wrong_group-g.result.now ≡ length (wrong_group (file c)) = ap length c.wrong_group-g.ensures in
    omega (arith, e, group-within (file c))

pub field_at-requires : goal.field_at-requires
field_at-requires c =
    let e : length c.wrong_group-g.result.now ≡ length (wrong_group (file c)) = ap length c.wrong_group-g.ensures in
    omega (arith, e, group-within (file c), whole-small (file c) (whole c))

pub returns : goal.returns
unfolding malformed_at
returns c =
    let w = (goal.at.returns c).After-wrong_group-g in
    ap₂ (λ (g : List ℕ) (k : ℕ). into-by (file w) g + k) c.wrong_group-g.ensures (c.field_at.ensures.0 ∙ ap field_at c.wrong_group-g.ensures)
    ∙ sym (pick_yes (is_whole _) _ _ (whole w))
