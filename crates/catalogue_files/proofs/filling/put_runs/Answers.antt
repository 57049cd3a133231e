-- The next run is put, and then those after it. Assumes nothing.
use Rattle.std.proofs.Common.{◌∙◌, ℕ, List, ap, sym}
use Rattle.catalogue_files.specs.Refusals.{painted}
use Rattle.catalogue_files.specs.Walks.{runs_in}
use Rattle.catalogue_files.proofs.filling.put_runs.Goals as goal

pub loop-r-preserved : goal.loop-r-preserved
unfolding painted
loop-r-preserved c =
    (tt, tt, ap (λ (b : List ℕ). painted b (runs_in c.next.new.self.0.now)) c.put_run.ensures ∙ sym (ap (painted c.loop-r.attributes) c.in-Some.ensures.steps) ∙ c.loop-r.invariant.2)

pub returns : goal.returns
unfolding painted
returns c = sym (ap (painted c.loop-r.attributes) c.in-None.ensures.steps.0) ∙ c.loop-r.invariant.2
