-- What a host asks, as a request and the command that carries it; its text, by the same rows that a station reads; and when it can be a
-- request: where steps 1 to 7 pass, else 14 (RULES H1, H2, M11 to M17). Assumes nothing.
use Rattle.std.specs.Prelude.{ℕ, ◌+◌, ◌/◌, ◌%◌, Bool, true, List, [], ◌∷◌, ◌++◌, eqb, ltb, length, get_or, drop}
use Rattle.rules.specs.Choice.{pick, both, between}
use Rattle.rules.specs.Characters.{digit0, letter_d, letter_r}
use Rattle.rules.specs.Tests.{Test, ◌unless◌}
use Rattle.text_digits.specs.Digits.{decimals}
use Rattle.text_hex.specs.Hex.{hex_digit}
use Rattle.text_hex_words.specs.Words.{low_first}
use Rattle.table_addresses.specs.declared.Area.TheVariants.{Relays, Registers}
use Rattle.mewtocol_frame.specs.declared.Limits.{Limits}
use Rattle.mewtocol_frame.specs.Text.{span}
use Rattle.mewtocol_commands.specs.declared.Command.{Command}
use Rattle.mewtocol_commands.specs.declared.Command.TheVariants.{RCS, RCP, RCC, WCS, WCP, WCC, RD, WD, SD}
use Rattle.mewtocol_commands.specs.declared.Field.{Field}
use Rattle.mewtocol_commands.specs.declared.Field.TheVariants.{LetterR, LetterD, Relay, Register, Contact, Value, Word}
use Rattle.mewtocol_commands.specs.Fields.{room}
use Rattle.mewtocol_commands.specs.Rows.{is_letter}
use Rattle.mewtocol_requests.specs.Requests.{Setting, Request, read_contacts, write_contacts, read_range, write_range, fill}
use Rattle.mewtocol_commands.specs.Commands.{entry, Layout, once, counted, with_words, layout, fields_of, good_range}
use Rattle.mewtocol_requests.specs.Code.{paired}
use Rattle.mewtocol_asking.specs.declared.Ask.{Ask}
use Rattle.mewtocol_asking.specs.declared.Ask.TheVariants as ask

-- ---- the ways of asking

-- a command, for a request
pub data Asking : Type 0 where
  ◌for◌ : Command → Request → Asking

infix 60 ◌for◌
-- contacts with their values; where there are not as many values as contacts there is no such list
abbrev pub settings_of : List ℕ → List ℕ → List Setting
settings_of cs vs = pick (eqb (length vs) (length cs)) (paired cs vs) []

-- contacts are read as a list: a list of one by RCS, any other by RCP
abbrev pub reads_by : List ℕ → Command
reads_by cs = pick (eqb (length cs) 1) RCS RCP

-- lists that an ask doesn't use are not looked at
abbrev pub asking : Ask → List ℕ → List ℕ → List ℕ → Asking
asking ask.ReadContacts cs vs ws = reads_by cs for read_contacts cs
asking (ask.ReadRelays s e) cs vs ws = RCC for read_range Relays s e
asking (ask.WriteContact c v) cs vs ws = WCS for write_contacts (record { contact = c; value = v } ∷ [])
asking ask.WriteContacts cs vs ws = WCP for write_contacts (settings_of cs vs)
asking (ask.WriteRelays s e) cs vs ws = WCC for write_range Relays s e ws
asking (ask.ReadWords s e) cs vs ws = RD for read_range Registers s e
asking (ask.WriteWords s e) cs vs ws = WD for write_range Registers s e ws
asking (ask.FillWords s e w) cs vs ws = SD for fill s e w

abbrev pub request_in : Asking → Request
request_in (c for q) = q

-- ---- a request's numbers

unfoldable pub spread : List Setting → List ℕ
spread [] = []
spread (s ∷ ss) = s.contact ∷ s.value ∷ spread ss

abbrev pub numbers_of : Request → List ℕ
numbers_of (read_contacts cs) = cs
numbers_of (write_contacts ss) = spread ss
numbers_of (read_range a s e) = s ∷ e ∷ []
numbers_of (write_range a s e ws) = s ∷ e ∷ ws
numbers_of (fill s e w) = s ∷ e ∷ w ∷ []

-- how many contacts or words it lists
abbrev pub listed_by : Request → ℕ
listed_by (read_contacts cs) = length cs
listed_by (write_contacts ss) = length ss
listed_by (read_range a s e) = 0
listed_by (write_range a s e ws) = length ws
listed_by (fill s e w) = 0

-- a letter says no number, every other field one
abbrev pub says : Field → ℕ
says f = pick (is_letter f) 0 1

-- ---- its text

-- a number in a field; letters stand for none
unfoldable pub characters : Field → ℕ → List ℕ
characters LetterR v = letter_r ∷ []
characters LetterD v = letter_d ∷ []
characters Relay v = decimals 4 v
characters Register v = decimals 5 v
characters Contact v = decimals 3 (v / 16) ++ (hex_digit (v % 16) ∷ [])
characters Value v = (digit0 + v) ∷ []
characters Word v = low_first v

-- fields that say numbers
unfoldable pub filled : List Field → List ℕ → List ℕ
filled [] ns = []
filled (f ∷ fs) ns = characters f (get_or ns 0 0) ++ filled fs (drop (says f) ns)

-- n before a counted list
abbrev pub count_text : Layout → ℕ → List ℕ
count_text (once r) n = []
count_text (counted r) n = (digit0 + n) ∷ []
count_text (with_words r) n = []

unfoldable pub ask_text : Asking → List ℕ
ask_text (c for q) =
    (entry c).name ++ count_text (layout (entry c).kind) (listed_by q) ++ filled (fields_of (layout (entry c).kind) (listed_by q)) (numbers_of q)

-- ---- whether it can be a request

-- each number has room in its field
unfoldable pub fit : List Field → List ℕ → Bool
fit [] ns = true
fit (f ∷ fs) ns = both (pick (is_letter f) true (ltb (get_or ns 0 0) (room f))) (fit fs (drop (says f) ns))

-- one to eight contacts; a word for each of the range
abbrev pub right_count : Layout → ℕ → ℕ → ℕ → Bool
right_count (once r) n start end = true
right_count (counted r) n start end = between 1 8 n
right_count (with_words r) n start end = eqb n (span start end)

abbrev pub start_of : Request → ℕ
start_of q = get_or (numbers_of q) 0 0

abbrev pub end_of : Request → ℕ
end_of q = get_or (numbers_of q) 1 0

-- steps 1 and 6, 4 and 7, 5, each by 14
abbrev pub ask_tests : Limits → Asking → List Test
ask_tests l (c for q) =
    (14 unless right_count (layout (entry c).kind) (listed_by q) (start_of q) (end_of q))
    ∷ (14 unless fit (fields_of (layout (entry c).kind) (listed_by q)) (numbers_of q))
    ∷ (14 unless good_range l (entry c).kind (start_of q) (end_of q))
    ∷ []

-- the three as one
unfoldable pub can_ask : Limits → Asking → Bool
can_ask l (c for q) =
    both (right_count (layout (entry c).kind) (listed_by q) (start_of q) (end_of q))
    (both (fit (fields_of (layout (entry c).kind) (listed_by q)) (numbers_of q)) (good_range l (entry c).kind (start_of q) (end_of q)))
