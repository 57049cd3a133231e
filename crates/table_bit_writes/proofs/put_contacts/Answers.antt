-- The invariant: writing what is left leaves what writing all of it leaves. Assumes nothing.
use mathlib.Core.Path.{sym, ap, ◌∙◌}
use mathlib.Core.List.{List, map}
use Prim.Native.Nat.{ℕ, ◌+◌}
use lib.ListN.{drop, get_or}
use Rattle.table_addresses.specs.Areas.{contact_cell}
use Rattle.table_registers.specs.Bits.{on_of, put_cell, put_cells}
use Rattle.table_registers.proofs.Cells.{contacts-turn, contacts-end, values-end}
use Rattle.table_bit_writes.proofs.put_contacts.Goals as goal

pub loop-i-preserved : goal.loop-i-preserved
loop-i-preserved c =
    let a = c.args in
    let l = c.loop-i in
    let next : List ℕ → List ℕ = (λ (w : List ℕ). put_cells w (map contact_cell (drop (l.i + 1) a.contacts.now)) (map on_of (drop (l.i + 1) a.values.now))) in
    (c.put_cell.auto.words ∙ l.invariant.0, ap next (c.put_cell.ensures ∙ ap (λ (k : ℕ). put_cell l.words k (on_of (get_or a.values.now l.i 0))) c.contact_cell.ensures) ∙ sym (contacts-turn contact_cell l.words a.contacts.now a.values.now l.i c.loop-i-test.true c.if-i-values.false) ∙ l.invariant.1)

pub returns-then-i-values : goal.returns-then-i-values
returns-then-i-values c = sym (values-end _ _ _ _ c.if-i-values.true) ∙ c.loop-i.invariant.1

pub returns : goal.returns
returns c = sym (contacts-end contact_cell _ _ _ _ c.loop-i-test.false) ∙ c.loop-i.invariant.1
