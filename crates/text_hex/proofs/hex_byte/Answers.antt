-- Two digits make the running value at width 2. Assumes nothing.
use mathlib.Core.Path.{refl, sym, ap, ◌∙◌}
use mathlib.Core.List.{List, [], ◌∷◌}
use Prim.Native.Nat.{ℕ}
use native.Mathlib.Omega.{arith}
use lib.Dec.{lit<}
use Rattle.text_digits.specs.Digits.{running}
use Rattle.text_hex.specs.Hex.{hex_value}
use Rattle.text_digits.specs.declared.Number.TheVariants.{Value}
use Rattle.rules.proofs.Choose.{via}
use Rattle.text_hex.proofs.Values.{hex-digits}
use Rattle.text_digits.proofs.Running.{Says, Below, running-stops, running-says, says-below}
use Rattle.text_hex.proofs.hex_byte.Goals.{In-Is-hex_at}
use Rattle.text_hex.proofs.hex_byte.Goals.{In-Is}
use Rattle.text_hex.proofs.hex_byte.Goals as goal

-- what is known once every digit is read
module _ (c : In-Is-hex_at) where
  abbrev text : List ℕ
  text = c.args.s.now

  abbrev read : List ℕ
  read = c.in-Is.a ∷ c.in-Is-hex_at.b ∷ []

  said : Says hex_value text 0 read
  said =
      (via c.hex_at.ensures c.in-Is.is, (via c.hex_at-2.ensures c.in-Is-hex_at.is, tt))

  below : Below 16 read
  below = says-below hex-digits read 0 text said

pub returns-in_default : goal.returns-in_default
unfolding running
returns-in_default c = sym (running-stops 16 hex_value 0 2 0 c.args.s.now (lit< tt) refl (via c.hex_at.ensures c.in_default.is))

pub returns-in_default-hex_at : goal.returns-in_default-hex_at
unfolding running
returns-in_default-hex_at c =
    let first = c in
    let text = first.args.s.now in
    let digits = first.in-Is.a ∷ [] in
    let one : Says hex_value text 0 digits = (via first.hex_at.ensures first.in-Is.is, tt) in
    sym (running-stops 16 hex_value 1 2 _ text (lit< tt) (running-says 16 hex_value digits 0 0 text one) (via c.hex_at-2.ensures c.in_default-hex_at.is))

pub overflow_mul-result : goal.overflow_mul-result
overflow_mul-result c = omega (arith, below c)

pub overflow_add-result : goal.overflow_add-result
overflow_add-result c = omega (arith, below c)

pub returns : goal.returns
returns c = ap Value (omega arith) ∙ sym (running-says 16 hex_value (read c) 0 0 (text c) (said c))
