-- What an entry leaves, its answer as one number for C (include/jeulgopae.h; RULES F1, F2). Assumes nothing.
use Rattle.std.specs.Prelude.{ℕ, ◌≡◌, List, ℤ}
use Rattle.rules.specs.Given.{Given, gives, refused}
use Rattle.host_pairs.specs.Pairs as pairs
use Rattle.jeulgopae_codes.specs.declared.asks.Chosen.{Chosen}
use Rattle.jeulgopae_codes.specs.declared.asks.Chosen.TheVariants.{Named, Unknown}
use Rattle.mewtocol_station.specs.Station.{mewtocol_station}
use Rattle.station.specs.Site.{Site, site_of}
use Rattle.station.specs.Outcome.{Outcome}
use Rattle.modbus_counters.specs.declared.Counters.{Counters}
use Rattle.modbus_line.specs.Framing.{Framing}
use Rattle.modbus_line.specs.Calls.{line_station, counters_after}
use Rattle.mewtocol_writer.specs.Writing as writing
use Rattle.laser.specs.Frame as laser
use Rattle.catalogue_files.specs.Refusals as files
use Rattle.jeulgopae_codes.specs.Codes.{minus, code, answer_code}

-- a station's number, words and room are those of the definition
pub record Stands (o : Outcome) (r : ℤ) (words room : List ℕ) : Type 0 where
  pub number_is : r ≡ answer_code o.result
  pub words-is : words ≡ o.words
  pub room-is : room ≡ o.room

-- and so are a Modbus station's, with the counters after the call
pub record CountersStand (o : Outcome) (c : Counters) (r : ℤ) (words room : List ℕ) (counters : Counters) : Type 0 where
  pub stands : Stands o r words room
  pub counters-are : counters ≡ c

abbrev pub StandsCounted : Framing → Counters → Site → List ℕ → List ℕ → List ℕ → ℤ → List ℕ → List ℕ → Counters → Type 0
StandsCounted m c site words frame room = CountersStand (line_station m c site words frame room) (counters_after m c site words frame room)

-- a profile's number that names none: an answer of its own, and words and room stay
pub record NoProfile (words room : List ℕ) (r : ℤ) (words' room' : List ℕ) : Type 0 where
  pub number_is : r ≡ minus 2000
  pub words-stay : words' ≡ words
  pub room-stays : room' ≡ room

-- a station at the profile that a number chose, or none
abbrev pub StandsBy : Chosen → List ℕ → ℕ → List ℕ → List ℕ → List ℕ → ℤ → List ℕ → List ℕ → Type 0
StandsBy (Named p) attributes own words frame room = Stands (mewtocol_station (site_of attributes p own) words frame room)
StandsBy Unknown attributes own words frame room = NoProfile words room

abbrev pub CountedBy : Chosen → Framing → Counters → List ℕ → ℕ → List ℕ → List ℕ → List ℕ → ℤ → List ℕ → List ℕ → Counters → Type 0
CountedBy (Named p) m c attributes own words frame room = StandsCounted m c (site_of attributes p own) words frame room
CountedBy Unknown m c attributes own words frame room = λ r words' room' c'. NoProfile words room r words' room' × (c' ≡ c)

-- the lower, and the higher, word of a number; or a refusal
abbrev pub low_of : pairs.Split → Given
low_of (pairs.words low high) = gives low
low_of (pairs.refused k) = refused k

abbrev pub high_of : pairs.Split → Given
high_of (pairs.words low high) = gives high
high_of (pairs.refused k) = refused k

abbrev pub low_code : pairs.Split → ℤ
low_code s = code (low_of s)

abbrev pub high_code : pairs.Split → ℤ
high_code s = code (high_of s)

-- so are a writer's number and room
pub record Writes (o : writing.Outcome) (r : ℤ) (room : List ℕ) : Type 0 where
  pub number_is : r ≡ code o.number
  pub room-is : room ≡ o.room

pub record LaserWrites (o : laser.Outcome) (r : ℤ) (room : List ℕ) : Type 0 where
  pub number_is : r ≡ code o.number
  pub room-is : room ≡ o.room

-- and so are a filling's number and attributes; 0 where they were filled
pub record Fills (o : files.Outcome) (r : ℤ) (attributes : List ℕ) : Type 0 where
  pub number_is : r ≡ code o.number
  pub attributes-is : attributes ≡ o.bytes
