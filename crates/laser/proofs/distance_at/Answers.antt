-- What the digits say, and the byte behind them. Assumes nothing.
use borrow.Author.Tests.{eq-eqb, ne_eqb}
use mathlib.Core.Path.{◌≡◌, ap}
use native.Mathlib.Nat.{add_comm}
use native.Mathlib.Omega.{arith}
use Rattle.rules.proofs.Choose.{via}
use Rattle.text_digits.specs.Digits.{decimal_value}
use Rattle.text_digits.proofs.Running.{running-within}
use Rattle.laser.specs.Frame.{unasked, distance_at}
use Rattle.laser.proofs.distance_at.Goals as goal

pub returns-then-byte_at-ne0 : goal.returns-then-byte_at-ne0
unfolding distance_at
returns-then-byte_at-ne0 c =
    let no_nul : c.byte_at.result ≡ 0 → ⊥ = λ e. omega (arith, e, c.if-byte_at-ne0.true) in
    rw (via c.decimal_5.ensures c.in-Value.is, ← c.byte_at.ensures, ne_eqb _ _ no_nul)

pub overflow_add-result : goal.overflow_add-result
overflow_add-result c = omega (arith, running-within 10 decimal_value 5 0 _ _ (via c.decimal_5.ensures c.in-NoDigitAt.is))

pub returns-else-byte_at-ne0 : goal.returns-else-byte_at-ne0
unfolding distance_at
returns-else-byte_at-ne0 c = rw (via c.decimal_5.ensures c.in-Value.is, ← c.byte_at.ensures, eq-eqb _ _ c.if-byte_at-ne0.false)

pub returns-in-NoDigitAt : goal.returns-in-NoDigitAt
unfolding distance_at
returns-in-NoDigitAt c = rw (via c.decimal_5.ensures c.in-NoDigitAt.is) (ap unasked (add_comm _ 5))
