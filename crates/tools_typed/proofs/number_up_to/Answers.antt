-- Each way reads one digit on, or comes to the end. Assumes nothing.
use borrow.Author.Tests.{eqb-true, eqb-false}
use mathlib.Core.Path.{sym, ap, ◌∙◌}
use Prim.Native.Nat.{ℕ, ◌+◌}
use lib.ListN.{drop}
use Rattle.std.proofs.Common.{Option, None}
use Rattle.tools_typed.specs.Typed.{with_typed, up_to}
use Rattle.tools_typed.proofs.Reading.{up-to-step, up-to-stop, some-digits, no-digits}
use Rattle.tools_typed.proofs.number_up_to.Goals as goal

pub returns-then-is_empty : goal.returns-then-is_empty
returns-then-is_empty c = sym (no-digits _ _ _ (eqb-true _ _ (sym c.if-is_empty.ensures)))

pub returns-in_err-v : goal.returns-in_err-v
returns-in_err-v c =
    let a = c.args in
    let l = c.loop-b in
    c.from_residual.ensures
    ∙ sym (some-digits a.hex a.most a.text.now (eqb-false _ _ (sym c.if-is_empty.ensures)) ∙ sym l.invariant
    ∙ up-to-step a.hex a.most l.v l.b-index a.text.now c.loop-b-test.true
    ∙ ap (λ (n : Option ℕ). with_typed n (λ w. up_to a.hex a.most w (drop (l.b-index + 1) a.text.now)) None) (sym c.in_err-v.ensures))

pub loop-b-preserved : goal.loop-b-preserved
loop-b-preserved c =
    let a = c.args in
    let l = c.loop-b in
    sym (up-to-step a.hex a.most l.v l.b-index a.text.now c.loop-b-test.true
    ∙ ap (λ (n : Option ℕ). with_typed n (λ w. up_to a.hex a.most w (drop (l.b-index + 1) a.text.now)) None) (sym c.in_ok-v.ensures)) ∙ l.invariant

pub returns : goal.returns
returns c =
    let a = c.args in
    let l = c.loop-b in
    sym (up-to-stop a.hex a.most l.v l.b-index a.text.now c.loop-b-test.false) ∙ l.invariant
    ∙ sym (some-digits a.hex a.most a.text.now (eqb-false _ _ (sym c.if-is_empty.ensures)))
