-- The chain tests each. Assumes nothing.
use Rattle.std.proofs.Common.{rules}
use Rattle.catalogue_format.specs.declared.Run.{Run}
use Rattle.rules.specs.Choice.{some}
use Rattle.catalogue_files.specs.Refusals.{meets}
use Rattle.catalogue_files.specs.Walks.{runs_in, meets_some}
use Rattle.catalogue_format.proofs.Walked.{any_told}
use Rattle.catalogue_files.proofs.runs.meets_some.Goals as goal

pub returns : goal.returns
unfolding meets_some
returns c = any_told (λ x. x) (λ s. runs_in s.0.now) (λ (q : Run). some (meets q) (runs_in c.args.those.now)) _ c.any.new.self _ _ c.any.ensures.ran (λ x b q k. search rules)
