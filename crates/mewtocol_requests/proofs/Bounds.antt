-- What a field says fits it. Assumes nothing.
use mathlib.Core.Path.{◌≡◌, refl}
use mathlib.Core.List.{List}
use Prim.Native.Nat.{ℕ, ◌+◌, ◌-◌, ◌*◌, ◌<◌}
use native.Mathlib.Omega.{arith}
use lib.Dec.{eqb, lit<}
use lib.ListN.{drop, get_or}
use Rattle.rules.specs.Characters.{digit0, letter_d, letter_r}
use Rattle.rules.specs.Choice.{between}
use Rattle.rules.proofs.Choose.{pick_all, in-range}
use Rattle.text_digits.specs.Digits.{with_number, decimal}
use Rattle.text_digits.specs.declared.Number.{Number}
use Rattle.text_digits.specs.declared.Number.TheVariants as number
use Rattle.text_digits.proofs.Values.{decimal-digits}
use Rattle.text_digits.proofs.Running.{running-below, with_value, digit_value}
use Rattle.text_hex.specs.Hex.{hex_value}
use Rattle.text_hex.proofs.Values.{hex-digits}
use Rattle.text_hex_words.proofs.Small.{low-first-small}
use Rattle.table_addresses.specs.Cells.{contact_of}
use Rattle.mewtocol_frame.specs.Text.{bit}
use Rattle.mewtocol_commands.specs.Fields.{letter, reads, amount, room}
use Rattle.mewtocol_commands.specs.Rows.{contact, setting, numbers}
use Rattle.mewtocol_commands.specs.Code.{number_in}
use Rattle.mewtocol_commands.specs.declared.Field.{Field}
use Rattle.mewtocol_commands.specs.declared.Field.TheVariants.{LetterR, LetterD, Relay, Register, Contact, Value, Word}

no_value : (p n : ℕ) (P : Type 0) → number.NoDigitAt p ≡ number.Value n → P
no_value p n P e = let z : ◌≡◌ {A = ℕ} 0 1 = cc in absurd (omega arith)

letter-below : (x c n : ℕ) → letter x c ≡ number.Value n → n < 1
unfolding letter
letter-below x c n =
    pick_all (λ (m : Number). m ≡ number.Value n → n < 1) (eqb c x) (number.Value 0) (number.NoDigitAt 0)
    (λ _ e. let z : 0 ≡ n = cc in omega arith) (λ _. no_value 0 n (n < 1))

bit_below : (x n : ℕ) → bit x ≡ number.Value n → n < 2
unfolding bit
bit_below x n =
    pick_all (λ (m : Number). m ≡ number.Value n → n < 2) (between digit0 (digit0 + 1) x) (number.Value (x - digit0)) (number.NoDigitAt 0)
    (λ t e. let r = in-range digit0 (digit0 + 1) x t in let w : x - digit0 ≡ n = cc in omega arith) (λ _. no_value 0 n (n < 2))

pub reads-below : (f : Field) (s : List ℕ) (n : ℕ) → reads f s ≡ number.Value n → n < room f
unfolding contact_of
reads-below LetterR s n e = letter-below letter_r (get_or s 0 0) n e
reads-below LetterD s n e = letter-below letter_d (get_or s 0 0) n e
reads-below Relay s n e = omega (arith, running-below decimal-digits 4 0 n s e)
reads-below Register s n e = omega (arith, running-below decimal-digits 5 0 n s e)
reads-below Contact s n e =
    let r = with_value (decimal 3 s) _ n e in
    let q = digit_value (hex_value (get_or s 3 0)) _ 3 n r.1.1 in
    let made : 16 * r.0 + q.0 ≡ n = cc q.1.1 in
    omega (arith, made, running-below decimal-digits 3 0 r.0 s r.1.0, hex-digits.small (get_or s 3 0) q.0 q.1.0)
reads-below Value s n e = bit_below (get_or s 0 0) n e
reads-below Word s n e = low-first-small s n e

number-below : (v : Number) (m : ℕ) → 0 < m → ((n : ℕ) → v ≡ number.Value n → n < m) → with_number v (λ n. n) 0 < m
number-below (number.Value n) m p h = h n refl
number-below (number.NoDigitAt _) m p h = p

pub room-some : (f : Field) → 0 < room f
room-some LetterR = lit< tt
room-some LetterD = lit< tt
room-some Relay = lit< tt
room-some Register = lit< tt
room-some Contact = lit< tt
room-some Value = lit< tt
room-some Word = lit< tt

pub amount-below : (f : Field) (s : List ℕ) → amount f s < room f
amount-below f s = number-below (reads f s) (room f) (room-some f) (reads-below f s)

-- the numbers of a contact's row
pub contact-small : (s : List ℕ) → number_in 0 contact s < room Contact
unfolding numbers
contact-small s = amount-below Contact (drop 1 s)

pub set-contact-small : (s : List ℕ) → number_in 0 setting s < room Contact
unfolding numbers
set-contact-small s = amount-below Contact (drop 1 s)

pub value-small : (s : List ℕ) → number_in 1 setting s < room Value
unfolding numbers
value-small s = amount-below Value (drop 4 (drop 1 s))
