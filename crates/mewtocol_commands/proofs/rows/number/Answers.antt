-- The invariant: number j of the whole is the one that is left to find in what is left of the row and of the text. Assumes nothing.
use mathlib.Core.Path.{refl, sym, ap, ◌∙◌}
use mathlib.Core.List.{List}
use native.Mathlib.Omega.{arith}
use borrow.Author.Tests.{eq-eqb, ne_eqb}
use lib.ListN.{get_or, drop, drop_of_length-le}
use Rattle.rules.proofs.Choose.{via}
use Rattle.mewtocol_commands.specs.Rows.{numbers}
use Rattle.mewtocol_commands.specs.Code.{number_in}
use Rattle.mewtocol_commands.specs.declared.Field.{Field}
use Rattle.mewtocol_commands.specs.declared.Field.TheVariants.{LetterR}
use Rattle.mewtocol_commands.proofs.OverRows.{number-turn, width_small}
use Rattle.mewtocol_commands.proofs.rows.number.Goals as goal
use Rattle.mewtocol_commands.proofs.rows.number.Goals.{then-not-is_letter+else-left-eq0, else-not-is_letter}

pub returns-then-left-eq0 : goal.returns-then-left-eq0
returns-then-left-eq0 c =
    let a = c.args in
    let l = c.loop-f in
    let turn = number-turn c.as_slice-all.result.now a.text.now l.f-index l.at l.left _ c.loop-f-test.true refl in
    c.said.ensures
    ∙ sym (ap (λ (k : List Field). number_in a.j k a.text.now) (sym c.as_slice-all.ensures.0) ∙ l.invariant.1 ∙ turn ∙ rw (via c.is_letter.ensures c.if-not-is_letter.true, eq-eqb _ _ c.if-left-eq0.true))

pub loop-f-preserved : goal.loop-f-preserved
loop-f-preserved c =
    let a = c.args in
    let l = c.loop-f in
    let turn = number-turn c.as_slice-all.result.now a.text.now l.f-index l.at l.left _ c.loop-f-test.true refl in (
      omega (arith, l.invariant.0, c.width-at.ensures, width_small (get_or c.as_slice-all.result.now l.f-index LetterR)),
      elim c.if-not-is_letter.branch [
        | then-not-is_letter+else-left-eq0 w ↦ l.invariant.1 ∙ turn ∙ rw (via c.is_letter.ensures w.if-not-is_letter.true, ne_eqb _ _ w.if-left-eq0.false, ← w.left-is, ← c.width-at.ensures)
        | else-not-is_letter w ↦ l.invariant.1 ∙ turn ∙ rw (via c.is_letter.ensures w.if-not-is_letter.false, ← w.left-is, ← c.width-at.ensures)
      ],
    )

pub returns : goal.returns
unfolding numbers
returns c =
    let a = c.args in
    let l = c.loop-f in
    let fs = c.as_slice-all.result.now in
    sym (l.invariant.1 ∙ ap (λ (k : List Field). number_in l.left k (drop l.at a.text.now)) (drop_of_length-le fs c.loop-f-test.false))
    ∙ ap (λ (k : List Field). number_in a.j k a.text.now) c.as_slice-all.ensures.0
