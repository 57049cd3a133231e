-- The chain tests each. Assumes nothing.
use Rattle.std.proofs.Common.{rules}
use Rattle.catalogue_format.specs.Shapes.{groups_in}
use Rattle.catalogue_files.specs.Walks.{beyond_in}
use Rattle.catalogue_format.proofs.Walked.{any_told}
use Rattle.catalogue_files.proofs.runs.any_beyond.Goals as goal

pub returns : goal.returns
returns c = any_told (λ x. x.now) (λ s. groups_in s.0.now) (beyond_in c.args.n) _ c.any.new.self _ _ c.any.ensures.ran (λ x b q k. search rules)
