-- The chain tests each. Assumes nothing.
use Rattle.std.proofs.Common.{rules, ℕ, List}
use Rattle.rules.specs.Choice.{same_bytes}
use Rattle.catalogue_format.specs.Format.{value_of}
use Rattle.catalogue_format.specs.Shapes.{groups_in}
use Rattle.catalogue_files.specs.Walks.{named_in}
use Rattle.catalogue_format.proofs.Walked.{any_told}
use Rattle.catalogue_files.proofs.names.is_named.Goals as goal

pub returns : goal.returns
unfolding named_in
returns c = any_told (λ x. x.now) (λ s. groups_in s.0.now) (λ (v : List ℕ). same_bytes c.args.asked.now (value_of v)) _ c.any.new.self _ _ c.any.ensures.ran (λ x b q k. search rules)
