-- Step 7 over words: they are right where every character is a hex digit. Assumes nothing.
use mathlib.Core.Bool.{Bool, true, false}
use mathlib.Core.List.{List, [], ◌∷◌}
use mathlib.Core.Path.{◌≡◌, refl, ap₂, ◌∙◌}
use Prim.Native.Nat.{ℕ, zero, suc, ◌+◌, ◌*◌}
use native.Mathlib.Omega.{arith}
use lib.ListN.{length}
use Rattle.rules.specs.Choice.{both}
use Rattle.text_digits.specs.Digits.{with_digit, is_digit, is_value, onward, later, running}
use Rattle.text_digits.specs.declared.Digit.{Digit}
use Rattle.text_digits.specs.declared.Digit.TheVariants.{Is, NoDigit}
use Rattle.text_digits.specs.declared.Number.{Number}
use Rattle.text_digits.specs.declared.Number.TheVariants.{Value, NoDigitAt}
use Rattle.text_hex.specs.Hex.{hex_value, all_hex}
use Rattle.text_hex_words.specs.Words.{low_first_word}
use Rattle.mewtocol_commands.specs.Rows.{times, every}
use Rattle.mewtocol_commands.specs.declared.Field.TheVariants.{Word}

-- a byte by its two digits, and a word by its two bytes
abbrev pair : Digit → Digit → Number
pair x y = with_digit x (λ d. later 1 (with_digit y (λ e. later 1 (Value ((0 * 16 + d) * 16 + e))) (NoDigitAt 0))) (NoDigitAt 0)

abbrev word : Number → Number → Number
word m n = onward m (λ low. onward (later 2 n) (λ high. Value (low + 256 * high)))

pair-value : (x y : Digit) → is_value (pair x y) ≡ both (is_digit x) (is_digit y)
pair-value (Is d) (Is e) = refl
pair-value (Is d) NoDigit = refl
pair-value NoDigit y = refl

word_value : (m n : Number) → is_value (word m n) ≡ both (is_value m) (is_value n)
word_value (Value d) (Value e) = refl
word_value (Value d) (NoDigitAt p) = refl
word_value (NoDigitAt p) n = refl

both-four : (a b c d e : Bool) → both (both (both a b) (both c d)) e ≡ both a (both b (both c (both d e)))
both-four true true true d e = refl
both-four true true false d e = refl
both-four true false c d e = refl
both-four false b c d e = refl

four : (a b c d : ℕ) (s : List ℕ)
    → is_value (low_first_word (a ∷ b ∷ c ∷ d ∷ s)) ≡ both (both (is_digit (hex_value a)) (is_digit (hex_value b))) (both (is_digit (hex_value c)) (is_digit (hex_value d)))
unfolding low_first_word running
four a b c d s =
    word_value (pair (hex_value a) (hex_value b)) (pair (hex_value c) (hex_value d))
    ∙ ap₂ both (pair-value (hex_value a) (hex_value b)) (pair-value (hex_value c) (hex_value d))

pub words-hex : (k : ℕ) (s : List ℕ) → length s ≡ 4 * k → every 7 (times k (Word ∷ [])) s ≡ all_hex s
unfolding every times all_hex
words-hex zero [] h = refl
words-hex zero (a ∷ s) h = absurd (omega arith)
words-hex (suc k) [] h = absurd (omega arith)
words-hex (suc k) (a ∷ []) h = absurd (omega arith)
words-hex (suc k) (a ∷ b ∷ []) h = absurd (omega arith)
words-hex (suc k) (a ∷ b ∷ c ∷ []) h = absurd (omega arith)
words-hex (suc k) (a ∷ b ∷ c ∷ d ∷ s) h =
    ap₂ both (four a b c d s) (words-hex k s (omega arith))
    ∙ both-four (is_digit (hex_value a)) (is_digit (hex_value b)) (is_digit (hex_value c)) (is_digit (hex_value d)) (all_hex s)
