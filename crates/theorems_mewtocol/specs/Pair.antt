-- What a MEWTOCOL host and a MEWTOCOL station make of each other, over both definitions (RULES P9). Each statement is proved in
-- proofs/Agree, proofs/Held or proofs/Example. Assumes nothing.
use Rattle.std.specs.Prelude.{ℕ, ◌+◌, ◌*◌, ◌≤◌, ◌<◌, ◌≡◌, List, [], ◌∷◌, true, length, take, drop, get_or, replicate}
use Rattle.rules.specs.Given.{gives, refused}
use Rattle.rules.specs.Tests.{first}
use Rattle.text_digits.specs.declared.Number.TheVariants.{Value}
use Rattle.text_hex_words.specs.Words.{low_first_word}
use Rattle.table_addresses.specs.Areas.{contact_cell, word_in}
use Rattle.table_addresses.specs.declared.Area.{Area}
use Rattle.table_addresses.specs.declared.Area.TheVariants.{Relays, Registers}
use Rattle.table_registers.specs.Bits.{cell_at}
use Rattle.table_registers.specs.Operation as operation
use Rattle.table_registers.specs.declared.Verdict.{Verdict}
use Rattle.table_registers.specs.declared.Verdict.TheVariants.{Granted, Lacking, Unfit}
use Rattle.table_registers.specs.declared.Profile.{Profile}
use Rattle.table_registers.specs.declared.Profile.TheVariants.{Free}
use Rattle.table_registers.specs.Profile.{verdict}
use Rattle.station.specs.Site.{Site, site_of}
use Rattle.station.specs.Outcome.{replied, Outcome}
use Rattle.station.specs.Station.{call_tests, station}
use Rattle.mewtocol_frame.specs.Frame.{ordinary, limits_of, limits_in, longest_of_all, highest, Roomy}
use Rattle.mewtocol_frame.specs.Text.{bit}
use Rattle.mewtocol_frame.specs.declared.Form.{Form}
use Rattle.mewtocol_frame.specs.declared.Limits.{Limits}
use Rattle.mewtocol_requests.specs.Requests.{Request, read_contacts, read_range}
use Rattle.mewtocol_requests.specs.Reading.{request}
use Rattle.mewtocol_requests.specs.Hearing.{read_frame}
use Rattle.mewtocol_station.specs.Replies.{operation_of, data_text}
use Rattle.mewtocol_station.specs.Station.{mewtocol}
use Rattle.mewtocol_asking.specs.Asking.{Asking, asking, request_in, can_ask}
use Rattle.mewtocol_asking.specs.declared.Ask.{Ask}
use Rattle.mewtocol_asking.specs.declared.Ask.TheVariants as ask
use Rattle.mewtocol_writer.specs.Writing.{ask_frame}
use Rattle.mewtocol_reader.specs.Replies.{Read, error, shows, read}

-- ---- what is asked, and how a table answers it

-- what can be a request in a form; a frame with the form's header is taken for that form, and the form has room for what it allows
pub record InForm (l : Limits) (a : Asking) : Type 0 where
  pub roomy : Roomy l
  pub taken-for : (f : List ℕ) → get_or f 0 0 ≡ l.header → limits_in f ≡ l
  pub can : can_ask l a ≡ true

-- a station's call on the frame that a host wrote to it
abbrev pub call_on : Limits → Site → List ℕ → List ℕ → Asking → Outcome
call_on l site words room a = station mewtocol site words (ask_frame l.header site.own a) room

-- what the table shows, as the text of the reply's data
abbrev pub shown_text : Request → List ℕ → List ℕ
shown_text q words = data_text q (operation.shows (operation_of q) words)

-- whether a request may be done
abbrev pub decided : operation.Judge → List ℕ → Request → Verdict
decided judge words q = judge words (operation_of q)

-- what a host is to read: what the table shows, error 66 where a named word lacks what is needed, or error 61 where the profile doesn't take a write
abbrev pub told : Request → List ℕ → Verdict → Read
told q words Granted = shows (shown_text q words)
told q words (Lacking i) = error 0x66
told q words Unfit = error 0x61

-- ---- they agree, in every form

-- of the two forms nothing is asked but that it can be a request
abbrev pub EitherForm : Type 0
EitherForm = (form : Form) (a : Asking) → can_ask (limits_of form) a ≡ true → InForm (limits_of form) a

-- where 1, 2 and 3 are not given, the station replies to every request that can be written
abbrev pub Answers : Type 0
Answers = (l : Limits) (site : Site) (words room : List ℕ) (a : Ask) (cs vs ws : List ℕ)
    → InForm l (asking a cs vs ws)
    → first refused (call_tests highest longest_of_all site (length words) (length room)) (gives 0) ≡ gives 0
    → (n : ℕ) × ((call_on l site words room (asking a cs vs ws)).result ≡ replied n)

-- and the host takes its reply, with no refusal: what the table shows, or error 66, or the profile's 61
abbrev pub Agree : Type 0
Agree = (l : Limits) (attributes : List ℕ) (p : Profile) (own : ℕ) (words room : List ℕ) (a : Ask) (cs vs ws : List ℕ) (n : ℕ)
    → let site : Site = site_of attributes p own in InForm l (asking a cs vs ws)
    → (call_on l site words room (asking a cs vs ws)).result ≡ replied n
    → let q : Request = request_in (asking a cs vs ws) in
    read l own (asking a cs vs ws) (take n (call_on l site words room (asking a cs vs ws)).room) ≡ told q words (decided (verdict p attributes) words q)

-- ---- what the data says is what the table held

-- every word fits 16 bits
abbrev pub Words : List ℕ → Type 0
Words words = (k : ℕ) → get_or words k 0 < 65536

-- RD and RCC, one over the area: word i of the data is the word that number start + i names, a relay word 30 words further on in the table
abbrev pub HeldWords : Type 0
HeldWords = (p : Profile) (words attributes : List ℕ) (area : Area) (s e i : ℕ) → Words words → decided (verdict p attributes) words (read_range area s e) ≡ Granted → s + i ≤ e
    → low_first_word (drop (4 * i) (shown_text (read_range area s e) words)) ≡ Value (get_or words (word_in area (s + i)) 0)

-- RCP, and RCS as the list of one: character i is what the i-th contact held
abbrev pub HeldContacts : Type 0
HeldContacts = (words cs : List ℕ) (i : ℕ) → i < length cs
    → bit (get_or (drop i (shown_text (read_contacts cs) words)) 0 0) ≡ Value (cell_at words (contact_cell (get_or cs i 0)))

-- ---- not empty

-- word 1, asked for in the ordinary form
abbrev pub word_one : Asking
word_one = asking (ask.ReadWords 1 1) [] [] []

abbrev pub two_words : Site
two_words = site_of (3 ∷ 3 ∷ []) Free 1

-- word 1 of a table of two words is 7: it is asked for, heard, shown and taken; a table of 131 words has relay word 100, and contact R1000 in it
pub record Example : Type 0 where
  pub in-form : InForm ordinary word_one
  pub heard-as : read_frame ordinary (ask_frame ordinary.header 1 word_one) ≡ request (read_range Registers 1 1)
  pub ready : first refused (call_tests highest longest_of_all two_words 2 longest_of_all) (gives 0) ≡ gives 0
  pub replies : (call_on ordinary two_words (0 ∷ 7 ∷ []) (replicate longest_of_all 0) word_one).result ≡ replied 13
  pub taken : read ordinary 1 word_one
      (take 13 (call_on ordinary two_words (0 ∷ 7 ∷ []) (replicate longest_of_all 0) word_one).room) ≡ shows (48 ∷ 55 ∷ 48 ∷ 48 ∷ [])
  pub granted : decided (verdict Free (3 ∷ 3 ∷ [])) (0 ∷ 7 ∷ []) (read_range Registers 1 1) ≡ Granted
  pub relays : (can_ask ordinary (asking (ask.ReadRelays 100 100) [] [] []) ≡ true)
      × (decided (verdict Free (replicate 131 3)) (replicate 131 0) (read_range Relays 100 100) ≡ Granted)
  pub contacts : (can_ask ordinary (asking ask.ReadContacts (1600 ∷ []) [] []) ≡ true)
      × (decided (verdict Free (replicate 131 3)) (replicate 131 0) (read_contacts (1600 ∷ [])) ≡ Granted)
