-- The mark decides. Assumes nothing.
use mathlib.Core.Path.{sym, ap, ◌∙◌}
use mathlib.Core.Bool.{true}
use Rattle.rules.proofs.Choose.{via, pick_yes, pick_no}
use Rattle.tools_typed.specs.Typed.{typed_number, number_up_to}
use Rattle.tools_typed.proofs.typed_number.Goals as goal

pub returns-then-is_marked : goal.returns-then-is_marked
unfolding typed_number
returns-then-is_marked c =
    let r = c in
    let m = r in
    c.number_up_to.ensures ∙ ap (number_up_to true _) r.rest.ensures ∙ sym (pick_yes _ _ _ (via m.is_marked.ensures r.if-is_marked.true))

pub returns : goal.returns
unfolding typed_number
returns c =
    let m = c in
    c.number_up_to-2.ensures ∙ sym (pick_no _ _ _ (via m.is_marked.ensures c.if-is_marked.false))
