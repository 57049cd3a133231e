-- The two characters behind the first two; a place among them counts two more. Assumes nothing.
use native.Mathlib.Omega.{arith}
use Rattle.rules.proofs.Choose.{via}
use Rattle.text_digits.proofs.Running.{running-within}
use Rattle.text_hex.specs.Hex.{hex_value}
use Rattle.text_hex_words.proofs.second_byte.Goals as goal

pub overflow_add-result : goal.overflow_add-result
overflow_add-result c = omega (arith, running-within 16 hex_value 2 0 _ _ (via c.hex_byte.ensures c.in-NoDigitAt.is))
