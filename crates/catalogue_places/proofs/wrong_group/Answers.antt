-- The chain finds the first. Assumes nothing.
use Rattle.std.proofs.Common.{rules, ◌∙◌, ap, refl, ℕ, List}
use mathlib.Core.Bool.{not}
use Rattle.catalogue_format.specs.Shapes.{places_in}
use Rattle.catalogue_places.specs.Places.{is_fine, wrong_group}
use Rattle.catalogue_places.proofs.Firsts.{find_told}
use Rattle.catalogue_places.proofs.wrong_group.Goals as goal

pub returns : goal.returns
unfolding wrong_group
returns c = ap (λ r. r.now) c.unwrap_or.ensures ∙ find_told (λ s. places_in s.0.now) (λ (t : List ℕ). not (is_fine t)) _ c.find.new.self _ c.find.result _ c.find.ensures.ran (λ x b q k. search rules) refl
