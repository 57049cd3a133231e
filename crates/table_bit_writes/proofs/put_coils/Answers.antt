-- The invariant: writing what is left leaves what writing all of it leaves. Assumes nothing.
use mathlib.Core.Path.{sym, ap, ◌∙◌}
use mathlib.Core.List.{List}
use Prim.Native.Nat.{ℕ, ◌+◌, ◌-◌}
use Rattle.table_registers.specs.Table.{up_from}
use Rattle.table_registers.specs.Bits.{put_cell, put_cells, bits_from}
use Rattle.table_registers.proofs.Cells.{coils-turn, coils-end}
use Rattle.table_bit_writes.proofs.put_coils.Goals as goal

pub loop-i-preserved : goal.loop-i-preserved
loop-i-preserved c =
    let a = c.args in
    let l = c.loop-i in
    let next : List ℕ → List ℕ = (λ (w : List ℕ). put_cells w (up_from (a.cell + (l.i + 1)) (a.n - (l.i + 1))) (bits_from a.bytes.now (l.i + 1) (a.n - (l.i + 1)))) in
    (c.put_cell.auto.words ∙ l.invariant.0, ap next (c.put_cell.ensures ∙ ap (put_cell l.words (a.cell + l.i)) c.bit_at.ensures) ∙ sym (coils-turn l.words a.bytes.now a.cell l.i a.n c.loop-i-test.true) ∙ l.invariant.1)

pub returns : goal.returns
returns c = sym (coils-end _ _ _ _ _ c.loop-i-test.false) ∙ c.loop-i.invariant.1
