-- What a text that passed steps 1 to 7 guarantees, in plain bounds, and which error numbers the steps give. Assumes nothing.
use Rattle.std.specs.Prelude.{ℕ, ◌≤◌, ◌<◌, ◌≡◌, List, ◌⊎◌, length, get_or}
use Rattle.table_addresses.specs.declared.Area.{Area}
use Rattle.table_addresses.specs.declared.Area.TheVariants.{Relays, Registers}
use Rattle.mewtocol_frame.specs.declared.Limits.{Limits}
use Rattle.mewtocol_frame.specs.Text.{span}
use Rattle.mewtocol_commands.specs.declared.Field.TheVariants.{Relay, Register, Contact, Value, Word}
use Rattle.mewtocol_commands.specs.Fields.{room}
use Rattle.mewtocol_requests.specs.Requests.{Request, read_contacts, write_contacts, read_range, write_range, fill, contacts_of, values_of}
use Rattle.mewtocol_requests.specs.Reading.{Reading, faulty, request}

-- start to end, in numbers below a bound
pub record Range (bound start end : ℕ) : Type 0 where
  pub ordered : start ≤ end
  pub small : end < bound

-- and so many words at most
pub record Short (most bound start end : ℕ) : Type 0 where
  pub range : Range bound start end
  pub few : span start end ≤ most

-- one to eight contacts
pub record Few (n : ℕ) : Type 0 where
  pub least : 1 ≤ n
  pub most : n ≤ 8

-- one word for each of the range
pub record Data (most bound start end : ℕ) (ws : List ℕ) : Type 0 where
  pub short : Short most bound start end
  pub count : length ws ≡ span start end
  pub small : (i : ℕ) → get_or ws i 0 < room Word

-- every number of an area is below this
abbrev pub bound : Area → ℕ
bound Relays = room Relay
bound Registers = room Register

-- what is counted, what is ordered, and what words are below
abbrev pub Ordered : Limits → Request → Type 0
Ordered l (read_contacts cs) = Few (length cs)
Ordered l (write_contacts ss) = Few (length ss)
Ordered l (read_range a s e) = Short l.reads (bound a) s e
Ordered l (write_range a s e ws) = Data l.writes (bound a) s e ws
Ordered l (fill s e w) = Range (bound Registers) s e × (w < room Word)

pub record Sound (l : Limits) (q : Request) : Type 0 where
  pub ordered : Ordered l q
  pub contacts : (i : ℕ) → get_or (contacts_of q) i 0 < room Contact
  pub values : (i : ℕ) → get_or (values_of q) i 0 < room Value

-- 41, 42, 60 and 61 only: 40 is the frame's, and 66 the table's
abbrev pub StepError : ℕ → Type 0
StepError n = (n ≡ 0x41) ⊎ ((n ≡ 0x42) ⊎ ((n ≡ 0x60) ⊎ (n ≡ 0x61)))

-- what a text comes to: an error of the steps, or a sound request; and a frame: error 40 besides
abbrev pub Settled : Limits → Reading → Type 0
Settled l (faulty n) = StepError n
Settled l (request q) = Sound l q

abbrev pub Answerable : Limits → Reading → Type 0
Answerable l (faulty n) = (n ≡ 0x40) ⊎ StepError n
Answerable l (request q) = Sound l q
