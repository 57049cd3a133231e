-- The invariant: the answer for the whole is the answer for the times that are left. Assumes nothing.
use mathlib.Core.Path.{◌≡◌, refl, sym, ap, ◌∙◌}
use Prim.Native.Nat.{ℕ, ◌-◌}
use native.Mathlib.Omega.{arith}
use lib.ListN.{drop}
use Rattle.rules.proofs.Choose.{via}
use Rattle.mewtocol_commands.specs.Rows.{times}
use Rattle.mewtocol_commands.specs.Code.{row_of}
use Rattle.mewtocol_asking.specs.Asking.{fit}
use Rattle.mewtocol_asking.specs.Code.{numbers_for}
use Rattle.mewtocol_asking.proofs.Fit.{fit-times}
use Rattle.mewtocol_asking.proofs.fits_times.Goals as goal

pub returns-then-not-fits_row : goal.returns-then-not-fits_row
returns-then-not-fits_row c =
    let a = c.args in
    let ns = numbers_for a.asking.now in
    let turn = fit-times (row_of a.row) ns a.n c.loop-i._i c.loop-i.k c.loop-i-test.true in
    sym (c.loop-i.invariant.1 ∙ turn ∙ rw (via c.fits_row.ensures c.if-not-fits_row.true) refl)

pub loop-i-preserved : goal.loop-i-preserved
loop-i-preserved c =
    let a = c.args in
    let ns = numbers_for a.asking.now in
    let turn = fit-times (row_of a.row) ns a.n c.loop-i._i c.loop-i.k c.loop-i-test.true in (
      omega (arith, c.loop-i.invariant.0, c.numbers_in-w.ensures.1),
      c.loop-i.invariant.1 ∙ turn ∙ rw (via c.fits_row.ensures c.if-not-fits_row.false, ← c.numbers_in-w.ensures.0) refl,
    )

pub returns : goal.returns
unfolding fit times
returns c =
    let a = c.args in
    let ns = numbers_for a.asking.now in
    let h : a.n - c.loop-i._i ≡ 0 = omega arith in
    sym (c.loop-i.invariant.1 ∙ ap (λ (m : ℕ). fit (times m (row_of a.row)) (drop c.loop-i.k ns)) h)
