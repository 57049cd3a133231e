-- The runs of the next group are put if it is on the chain, and then those of the groups after it. Assumes nothing.
use Rattle.std.proofs.Common.{◌∙◌, ℕ, List, ap, sym}
use Rattle.catalogue_format.specs.Shapes.{groups_in}
use Rattle.catalogue_files.specs.Refusals.{painted}
use Rattle.catalogue_files.specs.Walks.{chain_in}
use Rattle.catalogue_files.proofs.Puts.{painted-chain}
use Rattle.catalogue_files.proofs.filling.put_chain.Goals as goal

pub loop-v-preserved : goal.loop-v-preserved
loop-v-preserved c =
    let asked = c.args.asked.now in
    let rest = groups_in c.next.new.self.0.now in (
      tt,
      tt,
      ap (λ (b : List ℕ). painted b (chain_in asked rest)) c.put_group.ensures
          ∙ sym (painted-chain asked c.loop-v.attributes c.in-Some.v.now rest)
          ∙ sym (ap (λ (g : List (List ℕ)). painted c.loop-v.attributes (chain_in asked g)) c.in-Some.ensures.steps)
          ∙ c.loop-v.invariant.2,
    )

pub returns : goal.returns
unfolding painted chain_in
returns c = sym (ap (λ (g : List (List ℕ)). painted c.loop-v.attributes (chain_in c.args.asked.now g)) c.in-None.ensures.steps.0) ∙ c.loop-v.invariant.2
