-- The chain tests each. Assumes nothing.
use Rattle.std.proofs.Common.{rules}
use Rattle.catalogue_format.specs.Shapes.{is_item, siblings, filled_exactly}
use Rattle.catalogue_format.proofs.Walked.{all_told}
use Rattle.catalogue_format.proofs.shape.filled_exactly.Goals as goal

pub returns : goal.returns
unfolding filled_exactly
returns c = all_told (λ x. x.now) (λ s. siblings s.0.now) is_item _ c.all.new.self _ _ c.all.ensures.ran (λ x b q k. search rules)
