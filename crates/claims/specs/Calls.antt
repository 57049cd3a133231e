-- Calls: what an entry gave and left, told as its definition tells it. A promise is that the two are one, so whatever a file here says of a
-- definition holds of every answer, and of all words and bytes after it, that the promise allows (RULES P1, P2, C4). Proved in proofs/Called. Assumes nothing.
use Rattle.std.specs.Prelude.{ℕ, List, ◌≡◌, take, drop}
use Rattle.rules.specs.Given.{Given, gives, refused}
use Rattle.station.specs.Outcome.{Returned, replied, carried_out, numbered, Outcome, given, Is}
use Rattle.station.specs.declared.Answer.{Answer}
use Rattle.modbus_counters.specs.declared.Counters.{Counters}
use Rattle.modbus_line.specs.Calls.{Counts}
use Rattle.modbus_line.specs.declared.Call.{Call}
use Rattle.mewtocol_writer.specs.Writing as writing
use Rattle.mewtocol_writer.specs.declared.Written.{Written}
use Rattle.mewtocol_reader.specs.Replies as replies
use Rattle.laser.specs.Frame as laser
use Rattle.laser.specs.declared.Written as head
use Rattle.catalogue_files.specs.Refusals as files
use Rattle.catalogue_files.specs.declared.Filled.{Filled}
use Rattle.host_pairs.specs.Pairs as pairs

-- a station's answer, with the words and the room after it; a writer's, with the room
abbrev pub stood : Answer → List ℕ → List ℕ → Outcome
stood a words room = record { result = given a; words = words; room = room }

abbrev pub wrote : Written → List ℕ → writing.Outcome
wrote w room = record { number = writing.given w; room = room }

abbrev pub head_wrote : head.Written → List ℕ → laser.Outcome
head_wrote w room = record { number = laser.given_written w; room = room }

abbrev pub filled_with : Filled → List ℕ → files.Outcome
filled_with r attributes = record { number = files.given r; bytes = attributes }

-- the promise of every entry that writes: the call is what the definition says. (A reader's, a conversion's and the bit count's is this equation.)
pub record Promised : Type 0 where
  pub station : (o : Outcome) (a : Answer) (words room : List ℕ) → Is o a words room → stood a words room ≡ o
  -- a Modbus station's gives the counters after the call beside its answer
  pub modbus-station : (o : Outcome) (c : Counters) (r : Call) (words room : List ℕ) → Counts o c r words room
      → (stood r.answer words room ≡ o) × (r.counters ≡ c)
  pub writer : (o : writing.Outcome) (w : Written) (room : List ℕ) → writing.Is o w room → wrote w room ≡ o
  pub laser-writer : (o : laser.Outcome) (w : head.Written) (room : List ℕ) → laser.Is o w room → head_wrote w room ≡ o
  pub filling : (o : files.Outcome) (r : Filled) (attributes : List ℕ) → files.Is o r attributes → filled_with r attributes ≡ o

-- ---- numbers

-- a station's refusals; 15 is none
abbrev pub number_in : Returned → Given
number_in (replied n) = gives n
number_in carried_out = gives 15
number_in (numbered k) = refused k

abbrev pub number_of : Outcome → Given
number_of o = number_in o.result

-- 13 has a row of its own, by its place
abbrev pub read_number : replies.Read → Given
read_number (replies.refused k) = refused k
read_number (replies.unasked p) = gives 13
read_number (replies.error e) = gives e
read_number (replies.shows t) = gives 0

abbrev pub read_place : replies.Read → Given
read_place (replies.refused k) = gives k
read_place (replies.unasked p) = refused p
read_place (replies.error e) = gives e
read_place (replies.shows t) = gives 0

abbrev pub distance_number : laser.Told → Given
distance_number (laser.measures v) = gives v
distance_number (laser.unasked p) = gives 13
distance_number (laser.declined k) = refused k

abbrev pub distance_place : laser.Told → Given
distance_place (laser.measures v) = gives v
distance_place (laser.unasked p) = refused p
distance_place (laser.declined k) = gives k

abbrev pub frame_number : laser.Read → Given
frame_number (laser.frame a b d) = gives 0
frame_number (laser.none k) = refused k

abbrev pub pair_number : pairs.Split → Given
pair_number (pairs.words low high) = gives 0
pair_number (pairs.refused k) = refused k

-- ---- replies

-- a reply of n bytes: the message stands in the first n bytes of the room, later bytes are as before, and the words are those that were left
pub record Replied (message left room : List ℕ) (n : ℕ) (words' room' : List ℕ) : Type 0 where
  pub front : take n room' ≡ message
  pub later : drop n room' ≡ drop n room
  pub words_are : words' ≡ left
