-- The invariant: what was seen and what is left make the answer for the whole. Assumes nothing.
use Rattle.std.proofs.Common.{refl, ◌∙◌}
use Rattle.rules.specs.Choice.{between, all_between}
use Rattle.text_slices.proofs.Walk.{joins, joined}
use Rattle.text_slices.proofs.all_between.Goals as goal

pub loop-x-preserved : goal.loop-x-preserved
unfolding all_between
loop-x-preserved c =
    let a = c.args in
    joins (all_between a.lo a.hi) (between a.lo a.hi) (λ x xs. refl) c.loop-x.x-index a.s.now c.loop-x.fine _ _ c.loop-x-test.true c.is_between.ensures c.and-fine.ensures ∙ c.loop-x.invariant

pub returns : goal.returns
unfolding all_between
returns c = joined (all_between c.args.lo c.args.hi) refl c.loop-x.x-index c.args.s.now c.loop-x.fine c.loop-x-test.false c.loop-x.invariant
