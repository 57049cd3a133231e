-- What a field of a request says with its places left out, as the rules say it of values alone (RULES K1 to K4, M8, N9): no answer of a station depends
-- on where a character is wrong. Proved in proofs/Fields. Assumes nothing.
use Rattle.std.specs.Prelude.{ℕ, zero, suc, ◌+◌, ◌-◌, ◌*◌, List, ◌≡◌, eqb, drop, get_or}
use Rattle.rules.specs.Choice.{pick, between}
use Rattle.rules.specs.Characters.{digit0, letter_d, letter_r}
use Rattle.text_digits.specs.Digits.{with_digit, with_number, decimal_value}
use Rattle.text_digits.specs.declared.Digit.{Digit}
use Rattle.text_hex.specs.Hex.{hex_value}
use Rattle.mewtocol_commands.specs.Fields.{reads}
use Rattle.mewtocol_commands.specs.declared.Field.{Field}
use Rattle.mewtocol_commands.specs.declared.Field.TheVariants.{LetterR, LetterD, Relay, Register, Contact, Value, Word}

-- k characters, going on from v: each digit makes it `base` times as much and adds itself; what is no digit ends it
abbrev pub plainly : {A : Type 0} → ℕ → (ℕ → Digit) → ℕ → ℕ → List ℕ → (ℕ → A) → A → A
plainly base value v zero s f other = f v
plainly base value v (suc k) s f other = with_digit (value (get_or s 0 0)) (λ d. plainly base value (v * base + d) k (drop 1 s) f other) other

abbrev pub plain_field : {A : Type 0} → Field → List ℕ → (ℕ → A) → A → A
plain_field LetterR s f other = pick (eqb (get_or s 0 0) letter_r) (f 0) other
plain_field LetterD s f other = pick (eqb (get_or s 0 0) letter_d) (f 0) other
plain_field Relay s f other = plainly 10 decimal_value 0 4 s f other
plain_field Register s f other = plainly 10 decimal_value 0 5 s f other
plain_field Contact s f other = plainly 10 decimal_value 0 3 s (λ relay. with_digit (hex_value (get_or s 3 0)) (λ bit. f (16 * relay + bit)) other) other
plain_field Value s f other = pick (between digit0 (digit0 + 1) (get_or s 0 0)) (f (get_or s 0 0 - digit0)) other
plain_field Word s f other = plainly 16 hex_value 0 2 s (λ low. plainly 16 hex_value 0 2 (drop 2 s) (λ high. f (low + 256 * high)) other) other

abbrev pub PlacesLeftOut : Type 1
PlacesLeftOut = (A : Type 0) (field : Field) (s : List ℕ) (f : ℕ → A) (other : A) → with_number (reads field s) f other ≡ plain_field field s f other
