-- The invariant: the values so far stand in their places; each is 0 or 1. Assumes nothing.
use borrow.Author.Rules.{rules}
use mathlib.Core.Path.{refl, sym, ap, ap₂, ◌∙◌}
use mathlib.Core.List.{List}
use Prim.Native.Nat.{ℕ, ◌*◌, ◌<◌}
use native.Mathlib.Numerals.{add-one}
use native.Mathlib.Omega.{arith}
use lib.ListN.{length, length-set}
use Rattle.text_rooms.specs.Room.{overwrite}
use Rattle.text_rooms.proofs.Overwrite.{overwrite-none}
use Rattle.mewtocol_commands.specs.Rows.{setting, widths, repeated}
use Rattle.mewtocol_commands.specs.Code.{number_in}
use Rattle.mewtocol_commands.specs.declared.Field.{Field}
use Rattle.mewtocol_requests.proofs.Lists.{repeated-store}
use Rattle.mewtocol_requests.proofs.Bounds.{value-small}
use Rattle.mewtocol_requests.proofs.texts.take_values.Goals as goal

pub loop-i-init : goal.loop-i-init
unfolding repeated
loop-i-init c = (omega arith, refl, sym (overwrite-none _ _))

pub overflow_cast-values : goal.overflow_cast-values
overflow_cast-values c = omega (arith, c.number.ensures ∙ ap (λ (r : List Field). number_in 1 r c.rest.result.now) c.setting-row.ensures, value-small c.rest.result.now)

pub loop-i-preserved : goal.loop-i-preserved
loop-i-preserved c =
    let a = c.args in
    let l = c.loop-i in
    let g = number_in 1 setting in
    let h : l.i < length a.values.now = omega (arith, c.requires.0, c.requires.1) in (
      omega (arith, l.invariant.0),
      length-set l.values l.i c.number.result ∙ l.invariant.1,
      repeated-store a.values.now l.values l.i (widths setting) l.at c.number.result g a.text.now h l.invariant.2
          (l.invariant.0 ∙ ap (λ (w : ℕ). w * l.i) (c.wide-w.ensures.0 ∙ ap widths c.setting-row.ensures))
          (c.number.ensures ∙ ap₂ (λ (r : List Field) (t : List ℕ). number_in 1 r t) c.setting-row.ensures c.rest.ensures)
          ∙ ap (λ (n : ℕ). overwrite a.values.now 0 (repeated n (widths setting) g a.text.now)) (sym (add-one l.i)),
    )
