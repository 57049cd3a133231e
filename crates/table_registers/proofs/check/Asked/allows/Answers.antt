-- Past the table or outside the area it may not; else the attribute decides. Assumes nothing.
use mathlib.Core.Path.{◌∙◌, ap, sym}
use native.Mathlib.Omega.{arith}
use Rattle.rules.proofs.Choose.{via}
use Rattle.table_registers.specs.Table.{grants}
use Rattle.table_registers.proofs.Lacking.{allows-past, allows-by, allows-outside}
use Rattle.table_registers.proofs.check.Asked.allows.Goals as goal

pub returns-then-saturating_sub-i : goal.returns-then-saturating_sub-i
returns-then-saturating_sub-i c = sym (allows-past _ _ _ _ _ (omega arith))

pub returns-then-in_area : goal.returns-then-in_area
returns-then-in_area c =
    c.is_granted.ensures ∙ ap (grants _) c.byte_at.ensures
    ∙ sym (allows-by _ _ _ _ _ (omega arith) (via c.in_area.ensures c.if-in_area.true))

pub returns-else-in_area : goal.returns-else-in_area
returns-else-in_area c = c.if-in_area.false ∙ sym (allows-outside _ _ _ _ _ (via c.in_area.ensures c.if-in_area.false))
