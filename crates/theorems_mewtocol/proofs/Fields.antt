-- The statement of specs/Fields: a place is passed on and looked at by nobody. Assumes nothing.
use Prim.Native.Nat.{ℕ, zero, suc, ◌+◌, ◌-◌, ◌*◌}
use mathlib.Core.Bool.{Bool, true, false}
use mathlib.Core.List.{List}
use mathlib.Core.Path.{◌≡◌, refl, ◌∙◌}
use lib.Dec.{eqb}
use lib.ListN.{drop, get_or}
use Rattle.rules.specs.Choice.{pick, between}
use Rattle.rules.specs.Characters.{digit0, letter_d, letter_r}
use Rattle.text_digits.specs.Digits.{with_digit, with_number, onward, later, running, decimal_value, decimal}
use Rattle.text_digits.specs.declared.Digit.{Digit}
use Rattle.text_digits.specs.declared.Digit.TheVariants.{Is, NoDigit}
use Rattle.text_digits.specs.declared.Number.{Number}
use Rattle.text_digits.specs.declared.Number.TheVariants as number
use Rattle.text_hex.specs.Hex.{hex_value, hex}
use Rattle.text_hex_words.specs.Words.{low_first_word}
use Rattle.table_addresses.specs.Cells.{contact_of}
use Rattle.mewtocol_frame.specs.Text.{bit}
use Rattle.mewtocol_commands.specs.Fields.{letter}
use Rattle.mewtocol_commands.specs.declared.Field.TheVariants.{LetterR, LetterD, Relay, Register, Contact, Value, Word}
use Rattle.theorems_mewtocol.specs.Fields.{plainly, PlacesLeftOut}

module _ {A : Type 0} (f : ℕ → A) (other : A) where
  with-later : (k : ℕ) (m : Number) → with_number (later k m) f other ≡ with_number m f other
  with-later k (number.Value n) = refl
  with-later k (number.NoDigitAt p) = refl

  with-onward : (m : Number) (g : ℕ → Number) → with_number (onward m g) f other ≡ with_number m (λ n. with_number (g n) f other) other
  with-onward (number.Value n) g = refl
  with-onward (number.NoDigitAt p) g = refl

  with-picked : (b : Bool) (n p : ℕ) → with_number (pick b (number.Value n) (number.NoDigitAt p)) f other ≡ pick b (f n) other
  with-picked true n p = refl
  with-picked false n p = refl

  with-digit : (x : Digit) (g : ℕ → Number) (h : ℕ → A) (p : ℕ) → ((d : ℕ) → with_number (g d) f other ≡ h d)
      → with_number (with_digit x g (number.NoDigitAt p)) f other ≡ with_digit x h other
  with-digit (Is d) g h p e = e d
  with-digit NoDigit g h p e = refl

same_number : {A : Type 0} (m : Number) (f g : ℕ → A) (other : A) → ((n : ℕ) → f n ≡ g n) → with_number m f other ≡ with_number m g other
same_number (number.Value n) f g other e = e n
same_number (number.NoDigitAt p) f g other e = refl

plain : {A : Type 0} (base : ℕ) (value : ℕ → Digit) (k v : ℕ) (s : List ℕ) (f : ℕ → A) (other : A)
    → with_number (running base value v k s) f other ≡ plainly base value v k s f other
unfolding running
plain base value zero v s f other = refl
plain base value (suc k) v s f other =
    with-digit f other (value (get_or s 0 0)) _ _ 0
    (λ d. with-later f other 1 (running base value (v * base + d) k (drop 1 s)) ∙ plain base value k (v * base + d) (drop 1 s) f other)

pub places-left-out : PlacesLeftOut
unfolding letter bit contact_of low_first_word
places-left-out A LetterR s f other = with-picked f other (eqb (get_or s 0 0) letter_r) 0 0
places-left-out A LetterD s f other = with-picked f other (eqb (get_or s 0 0) letter_d) 0 0
places-left-out A Relay s f other = plain 10 decimal_value 4 0 s f other
places-left-out A Register s f other = plain 10 decimal_value 5 0 s f other
places-left-out A Contact s f other =
    with-onward f other (decimal 3 s) _
    ∙ same_number (decimal 3 s) _ _ other (λ relay. with-digit f other (hex_value (get_or s 3 0)) _ (λ bit. f (16 * relay + bit)) 3 (λ d. refl))
    ∙ plain 10 decimal_value 3 0 s _ other
places-left-out A Value s f other = with-picked f other (between digit0 (digit0 + 1) (get_or s 0 0)) (get_or s 0 0 - digit0) 0
places-left-out A Word s f other =
    with-onward f other (hex 2 s) _
    ∙ same_number (hex 2 s) _ _ other
    (λ low. with-onward f other (later 2 (hex 2 (drop 2 s))) _ ∙ with-later (λ high. f (low + 256 * high)) other 2 (hex 2 (drop 2 s)) ∙ plain 16 hex_value 2 0 (drop 2 s) _ other)
    ∙ plain 16 hex_value 2 0 s _ other
