-- Each way rewrites with the tests that led there. Assumes nothing.
use mathlib.Core.Path.{◌≡◌, ap, ◌∙◌}
use Prim.Native.Nat.{ℕ, ◌+◌}
use native.Mathlib.Omega.{arith}
use lib.ListN.{length}
use borrow.Author.Tests.{eq-eqb, ne_eqb}
use Rattle.rules.proofs.Choose.{via}
use Rattle.text_digits.specs.Digits.{decimal}
use Rattle.laser.specs.Frame.{good_shape}
use Rattle.laser.proofs.good_shape.Goals as goal

pub returns-in_default : goal.returns-in_default
unfolding good_shape
returns-in_default c = rw (via (c.decimal_2.ensures ∙ ap (decimal 2) c.rest.ensures) c.in_default.is)

pub returns-then-frame-n : goal.returns-then-frame-n
unfolding good_shape
returns-then-frame-n c =
    let f = c.args.frame.now in
    let n : ℕ = c.in-Value.n in
    let other : length f ≡ 8 + n → ⊥ = λ e. omega arith in
    rw (via (c.decimal_2.ensures ∙ ap (decimal 2) c.rest.ensures) c.in-Value.is, ne_eqb _ _ other)

pub returns-then-byte_at-ne47 : goal.returns-then-byte_at-ne47
unfolding good_shape
returns-then-byte_at-ne47 c =
    rw (via (c.decimal_2.ensures ∙ ap (decimal 2) c.rest.ensures) c.in-Value.is, eq-eqb _ _ c.if-frame-n.false, ← c.byte_at.ensures, ne_eqb _ _ c.if-byte_at-ne47.true)

pub returns : goal.returns
unfolding good_shape
returns c =
    rw (via (c.decimal_2.ensures ∙ ap (decimal 2) c.rest.ensures) c.in-Value.is, eq-eqb _ _ c.if-frame-n.false, ← c.byte_at.ensures, eq-eqb _ _ c.if-byte_at-ne47.false, ← c.byte_at-2.ensures)
