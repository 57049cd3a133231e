-- The chain finds the first. Assumes nothing.
use Rattle.std.proofs.Common.{rules, ◌∙◌, ap, refl, ℕ, List}
use mathlib.Core.Bool.{not}
use Rattle.catalogue_format.specs.Shapes.{siblings, is_item}
use Rattle.catalogue_places.proofs.Firsts.{find_told}
use Rattle.catalogue_places.proofs.first_no_item.Goals as goal

pub returns : goal.returns
returns c = ap (λ r. r.now) c.unwrap_or.ensures ∙ find_told (λ s. siblings s.0.now) (λ (t : List ℕ). not (is_item t)) _ c.find.new.self _ c.find.result _ c.find.ensures.ran (λ x b q k. search rules) refl
