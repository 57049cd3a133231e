-- Two writes, one after the other, are one. Assumes nothing.
use native.Mathlib.Omega.{arith}
use Rattle.text_hex.specs.Hex.{hex_digit}
use Rattle.text_hex_words.proofs.Back.{high_first-bytes}
use Rattle.text_rooms.proofs.Overwrite.{overwrite-join}
use Rattle.text_digits.proofs.Back.{digits_in-length}
use Rattle.text_hex_words.proofs.put_high_first.Goals as goal

pub returns : goal.returns
returns c =
    rw (high_first-bytes, c.put_hex-2.ensures, c.put_hex.ensures) (overwrite-join _ _ _ _ _ (omega arith) (rw (digits_in-length 16 hex_digit 2)))
