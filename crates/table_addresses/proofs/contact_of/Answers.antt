-- Three decimal digits and a hex digit. Assumes nothing.
use mathlib.Core.Path.{◌≡◌}
use native.Mathlib.Omega.{arith}
use Rattle.rules.proofs.Choose.{via}
use Rattle.text_digits.proofs.Values.{decimal-digits}
use Rattle.text_digits.proofs.Running.{running-below}
use lib.ListN.{get_or}
use Rattle.text_digits.specs.declared.Digit.TheVariants.{NoDigit}
use Rattle.text_hex.specs.Hex.{hex_value}
use Rattle.text_hex.proofs.Values.{hex-digits}
use Rattle.table_addresses.specs.Cells.{contact_of}
use Rattle.table_addresses.proofs.contact_of.Goals as goal

pub returns-in_default : goal.returns-in_default
unfolding contact_of
returns-in_default c = rw (via c.decimal_3-word.ensures c.in_default.is) c.in_default.is

pub returns-in_default-hex_at : goal.returns-in_default-hex_at
unfolding contact_of
returns-in_default-hex_at c =
    let s = c.args.s.now in
    let no-bit : hex_value (get_or s 3 0) ≡ NoDigit = via c.hex_at.ensures c.in_default-hex_at.is in
    rw (via c.decimal_3-word.ensures c.in-Value.is, no-bit)

pub overflow_mul-result : goal.overflow_mul-result
overflow_mul-result c = omega (arith, running-below decimal-digits 3 0 _ _ (via c.decimal_3-word.ensures c.in-Value.is))

pub overflow_add-result : goal.overflow_add-result
overflow_add-result c =
    omega (
      arith,
      running-below decimal-digits 3 0 _ _ (via c.decimal_3-word.ensures c.in-Value.is),
      hex-digits.small _ _ (via c.hex_at.ensures c.in-Is.is),
    )

pub returns : goal.returns
unfolding contact_of
returns c = rw (via c.decimal_3-word.ensures c.in-Value.is, via c.hex_at.ensures c.in-Is.is)
