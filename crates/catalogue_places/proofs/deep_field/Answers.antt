-- The chain finds the first. Assumes nothing.
use Rattle.std.proofs.Common.{rules, ◌∙◌, ap, refl}
use Rattle.catalogue_format.specs.Shapes.{siblings}
use Rattle.catalogue_files.specs.Walks.{deeper_field}
use Rattle.catalogue_places.specs.Places.{deep_field}
use Rattle.catalogue_places.proofs.Firsts.{find_told}
use Rattle.catalogue_places.proofs.deep_field.Goals as goal

pub returns : goal.returns
unfolding deep_field
returns c = ap (λ r. r.now) c.unwrap_or.ensures ∙ find_told (λ s. siblings s.0.now) (deeper_field c.args.k) _ c.find.new.self _ c.find.result _ c.find.ensures.ran (λ x b q k. search rules) refl
