-- Where the quick test passes nothing is found; else each place of the run is looked at. Assumes nothing.
use borrow.Author.Rules.{rules}
use mathlib.Core.Path.{◌≡◌, ◌∙◌, sym, ap}
use Prim.Native.Nat.{◌+◌}
use Rattle.table_registers.specs.Table.{allows, up_from}
use Rattle.table_registers.proofs.Lacking.{run-from, up_from-length, up_from-at}
use Rattle.table_registers.proofs.check.first_lacking.Goals as goal

pub returns : goal.returns
returns c =
    let a = c.args in
    let start = c.word-start.result in
    c.first_failing.ensures (allows a.words a.attributes.now a.area a.need) (up_from start a.count) (up_from-length start a.count)
    (λ i b h post.
    let is : b ≡ allows a.words a.attributes.now a.area a.need (start + i) = search rules in
    is ∙ ap (allows a.words a.attributes.now a.area a.need) (sym (up_from-at start a.count i h)))
    ∙ sym (run-from _ _ _ _ c.word-start.ensures)
