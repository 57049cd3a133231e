-- Each way rewrites with the test and the value that led there. Assumes nothing.
use borrow.Author.Tests.{eq-eqb, ne_eqb}
use mathlib.Core.Path.{ap}
use native.Mathlib.Nat.{add_comm}
use native.Mathlib.Omega.{arith}
use Rattle.rules.proofs.Choose.{via}
use Rattle.text_hex.specs.Hex.{hex_value}
use Rattle.text_hex.proofs.Values.{hex-digits}
use Rattle.text_digits.proofs.Running.{running-below, running-within}
use Rattle.mewtocol_reader.specs.Replies.{unasked, error_in}
use Rattle.mewtocol_reader.proofs.replies.error_in.Goals as goal

pub returns-then-text-ne2 : goal.returns-then-text-ne2
unfolding error_in
returns-then-text-ne2 c f = rw (ne_eqb _ _ c.if-text-ne2.true)

pub overflow_cast-result : goal.overflow_cast-result
overflow_cast-result c = omega (arith, running-below hex-digits 2 0 _ _ (via c.hex_byte.ensures c.in-Value.is))

pub overflow_add-result : goal.overflow_add-result
overflow_add-result c = omega (arith, running-within 16 hex_value 2 0 _ _ (via c.hex_byte.ensures c.in-NoDigitAt.is))

pub returns-in-Value : goal.returns-in-Value
unfolding error_in
returns-in-Value c f = rw (eq-eqb _ _ c.if-text-ne2.false, via c.hex_byte.ensures c.in-Value.is)

pub returns-in-NoDigitAt : goal.returns-in-NoDigitAt
unfolding error_in
returns-in-NoDigitAt c f = rw (eq-eqb _ _ c.if-text-ne2.false, via c.hex_byte.ensures c.in-NoDigitAt.is) (ap unasked (add_comm _ 4))
