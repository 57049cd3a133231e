-- The check, whom it is for, and the body. Assumes nothing.
use Prim.Native.Nat.{ℕ}
use mathlib.Core.List.{List}
use mathlib.Core.Path.{sym, ap, ◌∙◌}
use lib.ListN.{get_or}
use Rattle.rules.proofs.Choose.{via}
use Rattle.checks_lrc.specs.Lrc.{right_lrc}
use Rattle.modbus_line.specs.Framing.{whom_at}
use Rattle.modbus_ascii.specs.Ascii.{body_in, ascii}
use Rattle.masters.proofs.Lines.{right-frame}
use Rattle.masters.proofs.modbus.bytes_heard.Goals as goal

pub returns : goal.returns
returns c = λ frame good e.
    let a = c.args in
    right-frame ascii a.attributes.now a.profile a.own frame _ _ _ _ good (ap right_lrc e ∙ via c.right_lrc.ensures c.if-not-right_lrc.false)
    c.body_touched-asked.ensures (c.part_of.ensures ∙ ap body_in (sym e))
    (c.whom.ensures ∙ ap (λ (x : ℕ). whom_at x a.own) (c.byte_at.ensures ∙ ap (λ (l : List ℕ). get_or l 0 0) (sym e))) c.for_whom.ensures
