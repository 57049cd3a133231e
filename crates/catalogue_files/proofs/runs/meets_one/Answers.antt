-- The chain tests each. Assumes nothing.
use Rattle.std.proofs.Common.{rules}
use Rattle.catalogue_files.specs.Refusals.{meets}
use Rattle.catalogue_files.specs.Walks.{runs_in}
use Rattle.catalogue_format.proofs.Walked.{any_told}
use Rattle.catalogue_files.proofs.runs.meets_one.Goals as goal

pub returns : goal.returns
returns c = any_told (λ x. x) (λ s. runs_in s.0.now) (meets c.args.q) _ c.any.new.self _ _ c.any.ensures.ran (λ x b q k. search rules)
