-- The invariant: the answer for the whole row is the answer for what is left of it and of the text. Assumes nothing.
use mathlib.Core.Path.{refl, sym, ap, ◌∙◌}
use mathlib.Core.List.{List}
use native.Mathlib.Omega.{arith}
use lib.ListN.{get_or, drop, drop_of_length-le}
use Rattle.mewtocol_commands.specs.Rows.{every}
use Rattle.mewtocol_commands.specs.declared.Field.{Field}
use Rattle.mewtocol_commands.specs.declared.Field.TheVariants.{LetterR}
use Rattle.mewtocol_commands.proofs.OverRows.{every-turn, width_small}
use Rattle.mewtocol_commands.proofs.rows.every_field.Goals as goal

pub returns-then-not-passes : goal.returns-then-not-passes
returns-then-not-passes c =
    let a = c.args in
    let l = c.loop-f in
    let turn = every-turn a.step c.as_slice-all.result.now a.text.now l.f-index l.at _ _ _ c.loop-f-test.true refl c.rest.ensures c.passes.ensures in
    rw (← c.as_slice-all.ensures.0, l.invariant.1, turn, c.if-not-passes.true)

pub loop-f-preserved : goal.loop-f-preserved
loop-f-preserved c =
    let a = c.args in
    let l = c.loop-f in
    let turn = every-turn a.step c.as_slice-all.result.now a.text.now l.f-index l.at _ _ _ c.loop-f-test.true refl c.rest.ensures c.passes.ensures in (
      omega (arith, l.invariant.0, c.width-at.ensures, width_small (get_or c.as_slice-all.result.now l.f-index LetterR)),
      rw (l.invariant.1, turn, c.if-not-passes.false, ← c.width-at.ensures),
    )

pub returns : goal.returns
unfolding every
returns c =
    let a = c.args in
    let l = c.loop-f in
    let fs = c.as_slice-all.result.now in
    sym (l.invariant.1 ∙ ap (λ (k : List Field). every a.step k (drop l.at a.text.now)) (drop_of_length-le fs c.loop-f-test.false))
    ∙ ap (λ (k : List Field). every a.step k a.text.now) c.as_slice-all.ensures.0
