-- The chain tests each. Assumes nothing.
use Rattle.std.proofs.Common.{rules}
use Rattle.catalogue_format.specs.Shapes.{is_group_value, groups_in, all_groups}
use Rattle.catalogue_format.proofs.Walked.{all_told}
use Rattle.catalogue_format.proofs.shape.all_groups.Goals as goal

pub returns : goal.returns
unfolding all_groups
returns c = all_told (λ x. x.now) (λ s. groups_in s.0.now) is_group_value _ c.all.new.self _ _ c.all.ensures.ran (λ x b q k. search rules)
