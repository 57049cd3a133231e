-- The invariant: what is left, written from here on, makes the whole. Assumes nothing.
use mathlib.Core.Path.{sym, ap, ◌∙◌}
use mathlib.Core.List.{List}
use Prim.Native.Nat.{ℕ, ◌≤◌, ◌<◌}
use native.Mathlib.Omega.{arith}
use lib.ListN.{length, drop, drop_of_length-le}
use Rattle.text_rooms.specs.Room.{overwrite}
use Rattle.text_rooms.proofs.Overwrite.{overwrite-none}
use Rattle.mewtocol_commands.specs.Code.{row_of}
use Rattle.mewtocol_commands.specs.declared.Field.{Field}
use Rattle.mewtocol_commands.specs.declared.Field.TheVariants.{LetterR}
use Rattle.mewtocol_commands.proofs.OverRows.{row_field, widths-turn}
use Rattle.mewtocol_asking.specs.Asking.{characters, filled}
use Rattle.mewtocol_asking.specs.Code.{numbers_for}
use Rattle.mewtocol_asking.proofs.Fit.{says-small, fit-turn}
use Rattle.mewtocol_writer.proofs.Filled.{row-turn, has_room}
use Rattle.mewtocol_writer.proofs.fields.put_row.Goals as goal

pub put_field-requires : goal.put_field-requires
put_field-requires c =
    let a = c.args in
    let l = c.loop-i in
    let ns = numbers_for a.asking.now in
    let h : l.i < length (row_of a.row) = omega (arith, c.size-i-end.ensures) in
    let e = c.field-f.ensures ∙ row_field a.row l.i LetterR h in
    let turn = widths-turn (row_of a.row) l.i c.field-f.result h e in (
      omega (arith, c.requires.0, l.invariant.1.index, l.invariant.1.long, turn),
      λ letter. rw c.number.ensures (has_room c.field-f.result _ _ (sym (fit-turn (row_of a.row) ns l.i l.k c.field-f.result h e) ∙ l.invariant.1.fits) letter),
    )

pub loop-i-preserved : goal.loop-i-preserved
loop-i-preserved c =
    let a = c.args in
    let l = c.loop-i in
    let ns = numbers_for a.asking.now in
    let h : l.i < length (row_of a.row) = omega (arith, c.size-i-end.ensures) in
    let e = c.field-f.ensures ∙ row_field a.row l.i LetterR h in
    let turn = widths-turn (row_of a.row) l.i c.field-f.result h e in
    let put = c.put_field.ensures ∙ ap (λ (n : ℕ). overwrite l.room l.o (characters c.field-f.result n)) c.number.ensures in
    let next = row-turn (row_of a.row) ns a.at a.j a.room.now l.room _ l.i l.o l.k c.field-f.result h e l.invariant.1 c.put_field.auto.room (omega (arith, c.requires.0, l.invariant.1.index, l.invariant.1.long, turn)) put in (
      omega (arith, l.invariant.0, c.after-k.ensures, says-small c.field-f.result),
      rw (c.width-o.ensures, c.after-k.ensures) next,
    )

pub returns : goal.returns
unfolding filled
returns c =
    let a = c.args in
    let l = c.loop-i in
    let ns = numbers_for a.asking.now in
    let h : length (row_of a.row) ≤ l.i = omega (arith, c.size-i-end.ensures) in
    sym (overwrite-none l.room l.o) ∙ ap (λ (f : List Field). overwrite l.room l.o (filled f (drop l.k ns))) (sym (drop_of_length-le (row_of a.row) h)) ∙ l.invariant.1.stands
