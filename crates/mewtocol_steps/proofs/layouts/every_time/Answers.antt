-- The invariant: the answer for the whole is the answer for the times that are left. Assumes nothing.
use borrow.Author.Rules.{rules}
use mathlib.Core.Path.{◌≡◌, sym, ap, ◌∙◌}
use Prim.Native.Nat.{ℕ, ◌-◌}
use native.Mathlib.Omega.{arith}
use borrow.Author.Tests.{not-true, not-false}
use lib.ListN.{drop}
use Rattle.mewtocol_commands.specs.Rows.{times, every}
use Rattle.mewtocol_commands.specs.Code.{row_of}
use Rattle.mewtocol_commands.proofs.OverRows.{times-turn}
use Rattle.mewtocol_steps.proofs.layouts.every_time.Goals as goal

pub returns-then-not-every_field : goal.returns-then-not-every_field
returns-then-not-every_field c =
    let a = c.args in
    let turn = times-turn a.step (row_of a.row) a.text.now a.k c.loop-i._i c.loop-i.at c.loop-i-test.true in
    rw (c.loop-i.invariant.1, turn, ← c.rest.ensures, ← c.every_field.ensures, not-true c.every_field.result c.if-not-every_field.true-raw)

pub loop-i-preserved : goal.loop-i-preserved
loop-i-preserved c =
    let a = c.args in
    let turn = times-turn a.step (row_of a.row) a.text.now a.k c.loop-i._i c.loop-i.at c.loop-i-test.true in (
      omega (arith, c.loop-i.invariant.0, c.wide-w.ensures.1),
      rw (c.loop-i.invariant.1, turn, ← c.rest.ensures, ← c.every_field.ensures, not-false c.every_field.result c.if-not-every_field.false-raw, ← c.wide-w.ensures.0),
    )

pub returns : goal.returns
unfolding every times
returns c =
    let a = c.args in
    let h : a.k - c.loop-i._i ≡ 0 = omega arith in
    sym (c.loop-i.invariant.1 ∙ ap (λ (n : ℕ). every a.step (times n (row_of a.row)) (drop c.loop-i.at a.text.now)) h)
