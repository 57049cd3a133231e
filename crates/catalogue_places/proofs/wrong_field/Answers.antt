-- Each way goes by the name. Assumes nothing.
use mathlib.Core.Bool.{not}
use mathlib.Core.List.{List}
use mathlib.Core.Path.{sym, ap, ◌∙◌}
use Prim.Native.Nat.{ℕ}
use Rattle.rules.proofs.Choose.{via, pick_yes, pick_no}
use Rattle.catalogue_format.specs.Format.{is_name}
use Rattle.catalogue_format.specs.Shapes.{siblings, is_item}
use Rattle.catalogue_places.specs.Places.{first_that, wrong_field}
use Rattle.catalogue_places.proofs.wrong_field.Goals as goal

pub returns-then-not-is_name : goal.returns-then-not-is_name
unfolding wrong_field
returns-then-not-is_name c = sym (pick_no (is_name _) _ _ (via c.is_name.ensures c.if-not-is_name.true))

pub returns : goal.returns
unfolding wrong_field
returns c =
    c.first_no_item.ensures
    ∙ ap (λ (s : List ℕ). first_that (λ (t : List ℕ). not (is_item t)) (siblings s)) c.after.ensures
    ∙ sym (pick_yes (is_name _) _ _ (via c.is_name.ensures c.if-not-is_name.false))
