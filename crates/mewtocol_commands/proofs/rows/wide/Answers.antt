-- The invariant: so far, and what is left, are the whole. Assumes nothing.
use mathlib.Core.Path.{◌≡◌, refl, ap}
use Prim.Native.Nat.{◌≤◌}
use native.Mathlib.Omega.{arith}
use lib.ListN.{get_or, length, drop, drop_of_length-le}
use Rattle.mewtocol_commands.specs.Rows.{widths}
use Rattle.mewtocol_commands.specs.declared.Field.TheVariants.{LetterR}
use Rattle.mewtocol_commands.proofs.OverRows.{width_small, widths-turn}
use Rattle.mewtocol_commands.proofs.rows.wide.Goals as goal

pub loop-f-preserved : goal.loop-f-preserved
loop-f-preserved c =
    let l = c.loop-f in
    let turn = widths-turn c.as_slice-all.result.now l.f-index _ c.loop-f-test.true refl in (
      omega (arith, l.invariant.0, c.width-at.ensures, width_small (get_or c.as_slice-all.result.now l.f-index LetterR)),
      omega (arith, l.invariant.1, c.width-at.ensures, turn),
    )

pub returns : goal.returns
unfolding widths
returns c =
    let l = c.loop-f in
    let fs = c.as_slice-all.result.now in
    let h : length fs ≤ l.f-index = c.loop-f-test.false in
    let none : widths (drop l.f-index fs) ≡ 0 = ap widths (drop_of_length-le fs h) in (
      omega (arith, l.invariant.1, none, ap widths c.as_slice-all.ensures.0),
      omega (arith, l.invariant.0, l.auto.f-index-end, c.as_slice-all.ensures.1),
    )
