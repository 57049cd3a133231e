-- Each coil's word is looked at. Assumes nothing.
use borrow.Author.Rules.{rules}
use mathlib.Core.Path.{◌≡◌, ◌∙◌, sym, ap}
use Prim.Native.Nat.{ℕ, ◌+◌}
use Rattle.table_addresses.specs.declared.Area.TheVariants.{Relays}
use Rattle.table_registers.specs.Table.{allows, up_from}
use Rattle.table_registers.specs.Bits.{word_of}
use Rattle.table_registers.proofs.Lacking.{run-cells, up_from-length, up_from-at}
use Rattle.table_registers.proofs.check.first_lacking_coil.Goals as goal

pub returns : goal.returns
returns c =
    let a = c.args in
    let cell = c.cell-cell.result in
    let may : ℕ → _ = (λ k. allows a.words a.attributes.now Relays a.need (word_of k)) in
    c.first_failing.ensures may (up_from cell a.count) (up_from-length cell a.count)
    (λ i b h post.
    let is : b ≡ may (cell + i) = search rules in
    is ∙ ap may (sym (up_from-at cell a.count i h)))
    ∙ sym (run-cells _ _ _ _ c.cell-cell.ensures)
