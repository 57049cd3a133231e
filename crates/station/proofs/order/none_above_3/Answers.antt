-- The invariant: what was seen, by the or of it, and what is left make the answer for the whole. Assumes nothing.
use mathlib.Core.Path.{refl, ◌∙◌}
use lib.Dec.{leb}
use Rattle.rules.specs.Choice.{between, all_between}
use Rattle.text_slices.proofs.Walk.{joins, joined}
use Rattle.station.proofs.SmallOr.{or-between}
use Rattle.station.proofs.order.none_above_3.Goals as goal

pub loop-attribute-preserved : goal.loop-attribute-preserved
unfolding all_between
loop-attribute-preserved c =
    let at = c.loop-attribute in
    let s = c.args.s.now in
    joins (all_between 0 3) (between 0 3) (λ x xs. refl) at.attribute-index s (leb at.acc 3) _ _ c.loop-attribute-test.true refl (or-between at.acc _) ∙ at.invariant

pub returns : goal.returns
unfolding all_between
returns c =
    let at = c.loop-attribute in
    joined (all_between 0 3) refl at.attribute-index c.args.s.now (leb at.acc 3) c.loop-attribute-test.false at.invariant
