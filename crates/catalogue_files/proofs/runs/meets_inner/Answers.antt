-- The chain tests each. Assumes nothing.
use Rattle.std.proofs.Common.{rules, ℕ, List}
use Rattle.catalogue_format.specs.Format.{after_of}
use Rattle.catalogue_format.specs.Shapes.{groups_in}
use Rattle.catalogue_files.specs.Walks.{meets_some, meets_inner}
use Rattle.catalogue_format.proofs.Walked.{any_told}
use Rattle.catalogue_files.proofs.runs.meets_inner.Goals as goal

pub returns : goal.returns
unfolding meets_inner
returns c = any_told (λ x. x.now) (λ s. groups_in s.0.now) (λ (v : List ℕ). meets_some (after_of v) c.args.s.now) _ c.any.new.self _ _ c.any.ensures.ran (λ x b q k. search rules)
