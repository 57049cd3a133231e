-- The invariant: the rows that are left, written from here on, make the whole. Assumes nothing.
use mathlib.Core.Path.{◌≡◌, sym, ap, ◌∙◌}
use Prim.Native.Nat.{ℕ, ◌+◌, ◌-◌, ◌*◌, ◌≤◌}
use native.Mathlib.Nat.{mul-le-mul_left}
use native.Mathlib.Omega.{arith}
use lib.ListN.{drop}
use Rattle.rules.proofs.Choose.{both_left}
use Rattle.text_rooms.specs.Room.{overwrite}
use Rattle.text_rooms.proofs.Overwrite.{overwrite-none}
use Rattle.mewtocol_commands.specs.Rows.{times, widths}
use Rattle.mewtocol_commands.specs.Code.{row_of}
use Rattle.mewtocol_asking.specs.Asking.{filled}
use Rattle.mewtocol_asking.specs.Code.{numbers_for}
use Rattle.mewtocol_asking.proofs.Fit.{fit-times}
use Rattle.mewtocol_writer.proofs.Filled.{times-turn}
use Rattle.mewtocol_writer.proofs.fields.put_times.Goals as goal

pub put_row-requires : goal.put_row-requires
put_row-requires c =
    let a = c.args in
    let l = c.loop-i in
    let ns = numbers_for a.asking.now in
    let more : widths (row_of a.row) * (l._i + 1) ≤ widths (row_of a.row) * a.n = mul-le-mul_left (widths (row_of a.row)) (omega arith) in (
      omega (arith, c.requires.0, l.invariant.1.index, l.invariant.1.long, more),
      omega (arith, l.invariant.0, c.requires.1, c.requires.2),
      both_left _ _ (sym (fit-times (row_of a.row) ns a.n l._i l.k c.loop-i-test.true) ∙ l.invariant.1.fits),
    )

pub loop-i-preserved : goal.loop-i-preserved
loop-i-preserved c =
    let a = c.args in
    let l = c.loop-i in
    let ns = numbers_for a.asking.now in
    let more : widths (row_of a.row) * (l._i + 1) ≤ widths (row_of a.row) * a.n = mul-le-mul_left (widths (row_of a.row)) (omega arith) in
    let next = times-turn (row_of a.row) a.n ns a.at a.j a.room.now l.room _ l._i l.o l.k c.loop-i-test.true l.invariant.1 c.put_row.auto.room (omega (arith, c.requires.0, l.invariant.1.index, l.invariant.1.long, more)) c.put_row.ensures in (
      omega (arith, l.invariant.0, c.numbers_in-m.ensures.1),
      rw (c.wide-w.ensures.0, c.numbers_in-m.ensures.0) next,
    )

pub returns : goal.returns
unfolding filled times
returns c =
    let a = c.args in
    let l = c.loop-i in
    let ns = numbers_for a.asking.now in
    let h : 0 ≡ a.n - l._i = omega arith in
    sym (overwrite-none l.room l.o) ∙ ap (λ (m : ℕ). overwrite l.room l.o (filled (times m (row_of a.row)) (drop l.k ns))) h ∙ l.invariant.1.stands
