-- Two stores are one write. Assumes nothing.
use mathlib.Core.Path.{◌≡◌}
use mathlib.Core.List.{[], ◌∷◌}
use Prim.Native.Nat.{◌/◌, ◌%◌}
use native.Mathlib.Numerals.{add-one}
use Rattle.text_digits.specs.Digits.{digits_in}
use Rattle.text_rooms.proofs.Overwrite.{overwrite-run}
use Rattle.text_hex.specs.Hex.{hex_digit}
use Rattle.text_hex.proofs.put_hex.Goals as goal

pub returns : goal.returns
unfolding digits_in
returns c =
    let b = c.args.b in
    let high : c.hex_digit.result ≡ hex_digit (b / 16 % 16) = c.hex_digit.ensures in
    let low : c.hex_digit-2.result ≡ hex_digit (b % 16) = c.hex_digit-2.ensures in
    rw (← high, ← low, add-one)
    (overwrite-run _ (c.hex_digit.result ∷ c.hex_digit-2.result ∷ []) _ c.requires)
