-- Where every test passes each word is allowed, and the check finds nothing; the other ways promise nothing. Assumes nothing.
use mathlib.Core.Bool.{true}
use mathlib.Core.List.{List}
use mathlib.Core.Path.{◌≡◌, sym, ap, ◌∙◌}
use Prim.Native.Nat.{ℕ, ◌+◌}
use native.Mathlib.Omega.{arith}
use lib.ListN.{get_or}
use lib.Seq.{get_or-take, get_or-drop}
use Rattle.rules.proofs.Choose.{via}
use Rattle.table_registers.specs.Table.{grants, in_area, allows}
use Rattle.table_registers.proofs.Lacking.{run-all, area-between, allows-by}
use Rattle.table_registers.proofs.check.Asked.allows_run.Goals as goal

pub returns-then-part-count : goal.returns-then-part-count
returns-then-part-count c = λ e.
    let a = c.args.self.now in
    let us = a.attributes.now in
    let low = via c.in_area.ensures c.if-not-in_area.false in
    let high = via c.in_area-else-not-in_area.ensures c.if-not-in_area-2.false in
    run-all (allows a.words us a.area a.need) 0 c.args.first c.args.count (λ j h.
    let area : in_area a.area (c.args.first + j) ≡ true = area-between a.area c.args.first _ (c.args.first + j) low high (omega arith) (omega arith) in
    let same : get_or c.part_of-part.result.now j 0 ≡ get_or us (c.args.first + j) 0 =
    ap (λ (l : List ℕ). get_or l j 0) c.part_of-part.ensures ∙ get_or-take c.args.count _ j 0 h ∙ get_or-drop c.args.first us j 0 in
    allows-by a.words us a.area a.need (c.args.first + j) (omega (arith, c.saturating_sub.ensures, c.if-saturating_sub-count.false)) area
    ∙ ap (grants a.need) (sym same)
    ∙ c.all_granted.ensures e j (omega (arith, c.if-part-count.true)))
