-- Each arm is one field. Assumes nothing.
use mathlib.Core.Path.{◌≡◌, sym, ap, ap₂, ◌∙◌}
use mathlib.Core.List.{List, [], ◌∷◌}
use Prim.Native.Nat.{ℕ, ◌+◌, ◌/◌, ◌%◌}
use native.Mathlib.Omega.{arith}
use Rattle.text_rooms.specs.Room.{overwrite}
use Rattle.text_rooms.proofs.Overwrite.{overwrite-join}
use Rattle.text_digits.specs.Digits.{decimal_digit, decimals}
use Rattle.text_digits.proofs.Back.{digits_in-length}
use Rattle.text_hex.specs.Hex.{hex_digit}
use Rattle.mewtocol_asking.specs.Asking.{characters}
use Rattle.mewtocol_writer.proofs.fields.put_field.Goals as goal

pub returns-in-LetterR : goal.returns-in-LetterR
unfolding characters
returns-in-LetterR c = rw c.in-LetterR.is c.put_byte.ensures

pub returns-in-LetterD : goal.returns-in-LetterD
unfolding characters
returns-in-LetterD c = rw c.in-LetterD.is c.put_byte-in-LetterD.ensures

pub returns-in-Relay : goal.returns-in-Relay
unfolding characters
returns-in-Relay c = rw c.in-Relay.is c.put_decimal.ensures

pub returns-in-Register : goal.returns-in-Register
unfolding characters
returns-in-Register c = rw c.in-Register.is c.put_decimal-in-Register.ensures

pub returns-in-Contact : goal.returns-in-Contact
unfolding characters
returns-in-Contact c =
    let a = c.args in
    let h = rw c.in-Contact.is at c.requires.0 in
    let d = decimals 3 (a.v / 16) in
    let same : a.v % 16 % 16 ≡ a.v % 16 = omega arith in
    let first : c.put_decimal-in-Contact.new.out ≡ overwrite a.room.now a.at d = c.put_decimal-in-Contact.ensures in
    let last : c.hex_digit.result ≡ hex_digit (a.v % 16) = c.hex_digit.ensures ∙ ap hex_digit same in
    rw c.in-Contact.is
    (c.put_byte-in-Contact.ensures
    ∙ ap₂ (λ (r : List ℕ) (x : ℕ). overwrite r (a.at + 3) (x ∷ [])) first last
    ∙ overwrite-join a.room.now d (hex_digit (a.v % 16) ∷ []) a.at (a.at + 3) (omega (arith, h)) (ap (λ (n : ℕ). a.at + n) (sym (digits_in-length 10 decimal_digit 3 (a.v / 16)))))

pub returns-in-Value : goal.returns-in-Value
unfolding characters
returns-in-Value c = rw c.in-Value.is c.put_byte-in-Value.ensures

pub returns-in-Word : goal.returns-in-Word
unfolding characters
returns-in-Word c = rw c.in-Word.is c.put_low_first.ensures
