-- The invariant: the answer for the whole row is the answer for what is left of it and of the numbers. Assumes nothing.
use mathlib.Core.Path.{refl, sym, ap, ◌∙◌}
use mathlib.Core.List.{List}
use mathlib.Core.Bool.{true}
use Prim.Native.Nat.{ℕ, ◌≤◌, ◌<◌}
use native.Mathlib.Omega.{arith}
use lib.Dec.{ltb}
use lib.ListN.{length, drop, drop_of_length-le}
use Rattle.rules.specs.Choice.{pick}
use Rattle.rules.proofs.Choose.{via}
use Rattle.mewtocol_commands.specs.Fields.{room}
use Rattle.mewtocol_commands.specs.Rows.{is_letter}
use Rattle.mewtocol_commands.specs.Code.{row_of}
use Rattle.mewtocol_commands.specs.declared.Field.{Field}
use Rattle.mewtocol_commands.specs.declared.Field.TheVariants.{LetterR}
use Rattle.mewtocol_commands.proofs.OverRows.{row_field}
use Rattle.mewtocol_asking.specs.Asking.{fit}
use Rattle.mewtocol_asking.specs.Code.{numbers_for}
use Rattle.mewtocol_asking.proofs.Fit.{says-small, fit-turn}
use Rattle.mewtocol_asking.proofs.fits_row.Goals as goal

pub returns-then-not-has_room : goal.returns-then-not-has_room
returns-then-not-has_room c =
    let a = c.args in
    let l = c.loop-i in
    let ns = numbers_for a.asking.now in
    let h : l.i < length (row_of a.row) = omega (arith, c.size-i-end.ensures) in
    let has = c.has_room.ensures ∙ ap (λ (n : ℕ). pick (is_letter c.field-f.result) true (ltb n (room c.field-f.result))) c.number.ensures in
    let turn = fit-turn (row_of a.row) ns l.i l.k c.field-f.result h (c.field-f.ensures ∙ row_field a.row l.i LetterR h) in
    sym (l.invariant.1 ∙ turn ∙ rw (via has c.if-not-has_room.true) refl)

pub loop-i-preserved : goal.loop-i-preserved
loop-i-preserved c =
    let a = c.args in
    let l = c.loop-i in
    let ns = numbers_for a.asking.now in
    let h : l.i < length (row_of a.row) = omega (arith, c.size-i-end.ensures) in
    let has = c.has_room.ensures ∙ ap (λ (n : ℕ). pick (is_letter c.field-f.result) true (ltb n (room c.field-f.result))) c.number.ensures in
    let turn = fit-turn (row_of a.row) ns l.i l.k c.field-f.result h (c.field-f.ensures ∙ row_field a.row l.i LetterR h) in (
      omega (arith, l.invariant.0, c.after-k.ensures, says-small c.field-f.result),
      l.invariant.1 ∙ turn ∙ rw (via has c.if-not-has_room.false, ← c.after-k.ensures) refl,
    )

pub returns : goal.returns
unfolding fit
returns c =
    let a = c.args in
    let ns = numbers_for a.asking.now in
    let h : length (row_of a.row) ≤ c.loop-i.i = omega (arith, c.size-i-end.ensures) in
    sym (c.loop-i.invariant.1 ∙ ap (λ (l : List Field). fit l (drop c.loop-i.k ns)) (drop_of_length-le (row_of a.row) h))
