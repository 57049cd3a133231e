-- Four characters are two bytes, either way round, and a word that is written low byte first is read back. Assumes nothing.
use mathlib.Core.Path.{◌≡◌, refl, sym, ap, ◌∙◌}
use mathlib.Core.List.{List, ◌++◌, append_assoc}
use Prim.Native.Nat.{ℕ, ◌+◌, ◌*◌, ◌/◌, ◌%◌, ◌<◌}
use native.Mathlib.Nat.{add-zero}
use native.Mathlib.Omega.{arith}
use lib.ListN.{length, drop}
use lib.Seq.{drop_at}
use Rattle.text_digits.specs.Digits.{onward, later, running, digits_in}
use Rattle.text_digits.specs.declared.Number.TheVariants.{Value}
use Rattle.text_digits.proofs.Running.{running-split, running-on, onward-same, later-onward}
use Rattle.text_digits.proofs.Back.{digits_in-length}
use Rattle.text_hex.specs.Hex.{hex_value, hex_digit, hex, hex_byte}
use Rattle.text_hex.proofs.Back.{hex-back}
use Rattle.text_hex_words.specs.Words.{high_first, low_first, low_first_word}

-- four hex characters are two bytes, the high one first
pub hex-four : (s : List ℕ) → hex 4 s ≡ onward (hex 2 s) (λ high. onward (later 2 (hex 2 (drop 2 s))) (λ low. Value (high * 256 + low)))
hex-four s =
    running-split 16 hex_value 2 2 0 s
    ∙ onward-same (hex 2 s) _ _
    (λ h. ap (λ (v : ℕ). later 2 (running 16 hex_value v 2 (drop 2 s))) (sym (add-zero h)) ∙ ap (later 2) (running-on 16 hex_value 2 h 0 (drop 2 s))
    ∙ later-onward 2 (hex 2 (drop 2 s)) (λ low. Value (h * 256 + low)))

pub low_first-length : (w : ℕ) → length (low_first w) ≡ 4
unfolding low_first digits_in
low_first-length w = refl

pub low-first-back : (w : ℕ) (t : List ℕ) → w < 65536 → low_first_word (low_first w ++ t) ≡ Value w
unfolding low_first_word low_first
low-first-back w t h =
    let low = hex_byte (w % 256) in
    let high = hex_byte (w / 256) in
    let s : (low ++ high) ++ t ≡ low ++ (high ++ t) = append_assoc low high t in
    rw (s, hex-back 2 (w % 256) (high ++ t) (omega arith), drop_at low (high ++ t) 2 (digits_in-length 16 hex_digit 2 (w % 256)), hex-back 2 (w / 256) t (omega arith))
    (ap Value (omega arith))

-- four characters are those of the high byte and then those of the low one
pub high_first-bytes : (w : ℕ) → high_first w ≡ hex_byte (w / 256) ++ hex_byte (w % 256)
unfolding digits_in
high_first-bytes w =
    let a : w / 16 / 16 / 16 % 16 ≡ w / 256 / 16 % 16 = omega arith in
    let b : w / 16 / 16 % 16 ≡ w / 256 % 16 = omega arith in
    let c : w / 16 % 16 ≡ w % 256 / 16 % 16 = omega arith in
    let d : w % 16 ≡ w % 256 % 16 = omega arith in
    rw (a, b, c, d)
