-- The pairs so far are written. Assumes nothing.
use native.Mathlib.Omega.{arith}
use Rattle.text_digits.proofs.Back.{digits_in-length}
use Rattle.text_hex.specs.Hex.{hex_digit, hex_byte}
use Rattle.text_rooms.proofs.Each.{upto-none, upto-more}
use Rattle.modbus_ascii.proofs.put_pairs.Goals as goal

pub loop-i-init : goal.loop-i-init
loop-i-init c = let a = c.args in
    let none = upto-none hex_byte 2 a.bytes.now a.out.now a.at in
    (none.0, omega arith, none.2, none.3)

pub loop-i-preserved : goal.loop-i-preserved
loop-i-preserved c = let a = c.args in
    let more = upto-more hex_byte 2 a.bytes.now a.out.now a.at (digits_in-length 16 hex_digit 2) c.requires c.loop-i-test.true c.loop-i.invariant c.put_hex.ensures in
    (more.0, omega arith, more.2, more.3)
