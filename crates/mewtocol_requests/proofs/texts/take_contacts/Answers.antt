-- The invariant: the contacts so far stand in their places. Assumes nothing.
use borrow.Author.Rules.{rules}
use mathlib.Core.Path.{refl, sym, ap, ◌∙◌}
use Prim.Native.Nat.{ℕ, ◌*◌, ◌<◌}
use native.Mathlib.Numerals.{add-one}
use native.Mathlib.Omega.{arith}
use lib.ListN.{length, length-set}
use Rattle.text_rooms.specs.Room.{overwrite}
use Rattle.text_rooms.proofs.Overwrite.{overwrite-none}
use Rattle.mewtocol_commands.specs.Rows.{widths, repeated}
use Rattle.mewtocol_commands.specs.Code.{row_of, number_in}
use Rattle.mewtocol_requests.proofs.Lists.{repeated-store}
use Rattle.mewtocol_requests.proofs.texts.take_contacts.Goals as goal

pub loop-i-init : goal.loop-i-init
unfolding repeated
loop-i-init c = (omega arith, refl, sym (overwrite-none _ _))

pub loop-i-preserved : goal.loop-i-preserved
loop-i-preserved c =
    let a = c.args in
    let l = c.loop-i in
    let g = number_in 0 (row_of a.row) in
    let h : l.i < length a.contacts.now = omega (arith, c.requires.0, c.requires.1) in (
      omega (arith, l.invariant.0),
      length-set l.contacts l.i c.number.result ∙ l.invariant.1,
      repeated-store a.contacts.now l.contacts l.i (widths (row_of a.row)) l.at c.number.result g a.text.now h l.invariant.2
          (l.invariant.0 ∙ ap (λ (w : ℕ). w * l.i) c.wide-w.ensures.0) (c.number.ensures ∙ ap g c.rest.ensures)
          ∙ ap (λ (n : ℕ). overwrite a.contacts.now 0 (repeated n (widths (row_of a.row)) g a.text.now)) (sym (add-one l.i)),
    )
