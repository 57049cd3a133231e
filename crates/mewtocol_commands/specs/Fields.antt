-- The fields that the text of a request is made of: how many characters each has, which step looks at them, and the number that they say where they
-- are right (RULES M8). Assumes nothing.
use Rattle.std.specs.Prelude.{ℕ, List, Bool, get_or, eqb}
use Rattle.rules.specs.Choice.{pick}
use Rattle.rules.specs.Characters.{letter_d, letter_r}
use Rattle.text_digits.specs.Digits.{with_number, is_value, decimal}
use Rattle.text_digits.specs.declared.Number.{Number}
use Rattle.text_digits.specs.declared.Number.TheVariants as number
use Rattle.text_hex_words.specs.Words.{low_first_word}
use Rattle.table_addresses.specs.Cells.{contact_of}
use Rattle.mewtocol_frame.specs.Text.{bit}
use Rattle.mewtocol_commands.specs.declared.Field.{Field}
use Rattle.mewtocol_commands.specs.declared.Field.TheVariants.{LetterR, LetterD, Relay, Register, Contact, Value, Word}

-- how many characters it has
abbrev pub width : Field → ℕ
width LetterR = 1
width LetterD = 1
width Relay = 4
width Register = 5
width Contact = 4
width Value = 1
width Word = 4

-- the step that looks at its characters: 3 letters, 4 number characters, 7 data
abbrev pub step_of : Field → ℕ
step_of LetterR = 3
step_of LetterD = 3
step_of Relay = 4
step_of Register = 4
step_of Contact = 4
step_of Value = 7
step_of Word = 7

-- a letter that is in place; it says no number of its own
unfoldable pub letter : ℕ → ℕ → Number
letter x c = pick (eqb c x) (number.Value 0) (number.NoDigitAt 0)

-- the number that a text says from here on in this field; where its characters are not right, none
abbrev pub reads : Field → List ℕ → Number
reads LetterR s = letter letter_r (get_or s 0 0)
reads LetterD s = letter letter_d (get_or s 0 0)
reads Relay s = decimal 4 s
reads Register s = decimal 5 s
reads Contact s = contact_of s
reads Value s = bit (get_or s 0 0)
reads Word s = low_first_word s

abbrev pub right : Field → List ℕ → Bool
right f s = is_value (reads f s)

abbrev pub amount : Field → List ℕ → ℕ
amount f s = with_number (reads f s) (λ n. n) 0

-- every number that it can say is below this
abbrev pub room : Field → ℕ
room LetterR = 1
room LetterD = 1
room Relay = 10000
room Register = 100000
room Contact = 16000
room Value = 2
room Word = 65536
