-- What a C caller may rely on besides the promises: no two answers have one number, the data is where the header says (RULES F4, F5), and what is
-- claimed of the engine's entries holds of the exported functions. Proved in proofs/Layouts and proofs/Through. Assumes nothing.
use Rattle.std.specs.Prelude.{ℕ, suc, ◌-◌, ◌/◌, ◌%◌, ◌≤◌, ◌≢◌, ◌≡◌, List, eqb, ltb, ℤ, pos, negsuc, length, take, drop}
use Rattle.rules.specs.Choice.{pick}
use Rattle.rules.specs.Given.{Given, gives, refused}
use Rattle.checks_shared.specs.Line.{Bytes}
use Rattle.checks_bit_count.specs.Differing as count
use Rattle.table_addresses.specs.Catalogue.{register_address, register_number, coil_address, coil_number}
use Rattle.table_addresses.specs.Catalogue.{given_at, given_is, given_coil_at, given_coil_is}
use Rattle.station.specs.Outcome as station
use Rattle.station.specs.declared.Answer.{Answer}
use Rattle.modbus_counters.specs.declared.Counters.{Counters}
use Rattle.modbus_line.specs.Calls.{Counts}
use Rattle.modbus_line.specs.declared.Call.{Call}
use Rattle.mewtocol_frame.specs.declared.Form.{Form}
use Rattle.mewtocol_frame.specs.Frame.{limits_of}
use Rattle.mewtocol_writer.specs.Writing as writing
use Rattle.mewtocol_writer.specs.declared.Written.{Written}
use Rattle.mewtocol_reader.specs.Replies as replies
use Rattle.mewtocol_reader.specs.declared.Reply.{Reply}
use Rattle.mewtocol_asking.specs.declared.Ask.{Ask}
use Rattle.mewtocol_asking.specs.Asking.{asking}
use Rattle.laser.specs.Frame as laser
use Rattle.laser.specs.declared.Reading.{Reading}
use Rattle.laser.specs.declared.Written as head
use Rattle.catalogue_files.specs.Refusals as files
use Rattle.catalogue_files.specs.declared.Filled.{Filled}
use Rattle.host_pairs.specs.Pairs as pairs
use Rattle.jeulgopae_codes.specs.Codes.{code, answer_code, reply_code, laser_code, distance_code}
use Rattle.jeulgopae.specs.Codes.{Stands, CountersStand, Writes, LaserWrites, Fills, low_of, high_of, low_code, high_code}

-- ---- what a number says

-- from 0 on a value, below 0 a refusal
abbrev pub told : ℤ → Given
told (pos n) = gives n
told (negsuc k) = refused (suc k)

-- and of a station's answers
abbrev pub told_answer : ℤ → station.Returned
told_answer (pos n) = station.replied n
told_answer (negsuc k) = pick (eqb k 14) station.carried_out (station.numbered (suc k))

-- what is left of a reply when its data is counted: so many characters, the station's error, 13 at a place, or another refusal
pub data Said : Type 0 where
  characters : ℕ → Said
  error : ℕ → Said
  wrong_at : ℕ → Said
  no_reply : ℕ → Said

abbrev pub said : replies.Read → Said
said (replies.shows t) = characters (length t)
said (replies.error e) = error e
said (replies.unasked p) = wrong_at p
said (replies.refused k) = no_reply k

abbrev pub told_reply : ℤ → Said
told_reply (pos n) = characters n
told_reply (negsuc k) = pick (ltb k 255) (no_reply (suc k)) (pick (ltb k 129999) (error (k - 255)) (wrong_at (k - 129999)))

-- and of a laser head's frame: two bytes and a count, or a refusal
pub data Counted : Type 0 where
  counts : (first second count : ℕ) → Counted
  no_frame : ℕ → Counted

abbrev pub counted : laser.Read → Counted
counted (laser.frame first second bytes) = counts first second (length bytes)
counted (laser.none k) = no_frame k

abbrev pub told_laser : ℤ → Counted
told_laser (pos n) = counts (n / 65536) (n / 256 % 256) (n % 256)
told_laser (negsuc k) = no_frame (suc k)

-- and of a distance
abbrev pub told_distance : ℤ → laser.Told
told_distance (pos n) = laser.measures n
told_distance (negsuc k) = pick (ltb k 129999) (laser.declined (suc k)) (laser.unasked (k - 129999))

-- ---- the statements

-- a length or a value is told, and so is a refusal: none can be taken for the other
pub record CodeTold : Type 0 where
  pub value : (n : ℕ) → told (code (gives n)) ≡ gives n
  pub refusal : (k : ℕ) → 1 ≤ k → told (code (refused k)) ≡ refused k

-- so is what a station gives: a reply, 15, and every other number
pub record AnswerTold : Type 0 where
  pub reply : (n : ℕ) → told_answer (answer_code (station.replied n)) ≡ station.replied n
  pub carried : told_answer (answer_code station.carried_out) ≡ station.carried_out
  pub refusal : (k : ℕ) → 1 ≤ k → k ≢ 15 → told_answer (answer_code (station.numbered k)) ≡ station.numbered k

-- whatever was asked and whatever came
abbrev pub ReplyTold : Type 0
ReplyTold = (form : Form) (station : ℕ) (a : Ask) (cs vs ws f : List ℕ)
    → let r = replies.read (limits_of form) station (asking a cs vs ws) f in told_reply (reply_code r) ≡ said r

abbrev pub LaserTold : Type 0
LaserTold = (f : List ℕ) → Bytes f → told_laser (laser_code (laser.read f)) ≡ counted (laser.read f)

abbrev pub DistanceTold : Type 0
DistanceTold = (f : List ℕ) → told_distance (distance_code (laser.distance_of f)) ≡ laser.distance_of f

-- a word of a number, or 14
pub record PairTold : Type 0 where
  pub low : (z : ℤ) → told (low_code (pairs.pair_words z)) ≡ low_of (pairs.pair_words z)
  pub high : (z : ℤ) → told (high_code (pairs.pair_words z)) ≡ high_of (pairs.pair_words z)

-- the data of a MEWTOCOL reply begins at its seventh character, that of a laser head's frame at its sixth
abbrev pub ReplyData : Type 0
ReplyData = (form : Form) (station : ℕ) (a : Ask) (cs vs ws f t : List ℕ) → replies.read (limits_of form) station (asking a cs vs ws) f ≡ replies.shows t
    → t ≡ take (length t) (drop 6 f)

abbrev pub LaserData : Type 0
LaserData = (f : List ℕ) (a b : ℕ) (d : List ℕ) → laser.read f ≡ laser.frame a b d → d ≡ take (length d) (drop 5 f)

-- ---- the engine's promises, through the layouts

-- a promise for C and one of the engine, through a layout: the number is that of an answer which the engine's promise allows
abbrev pub Through : {A B : Type 0} → (A → B) → (B → ℤ) → B → Type 0
Through {A} given layout d = (r : ℤ) → r ≡ layout d → (x : A) × ((given x ≡ d) × (r ≡ layout (given x)))

-- so whatever is claimed of every answer, with all words and bytes after it, that the promise of an entry allows, holds of the exported function's.
-- (A word or a contact of a reply's data, the CRC, the number of two words and where two frames meet are the engine's own as they are.)
pub record EnginePromises : Type 0 where
  pub modbus-station : (o : station.Outcome) (c : Counters) (r : ℤ) (words room : List ℕ) (counters : Counters) → CountersStand o c r words room counters
      → (call : Call) × (Counts o c call words room × (r ≡ answer_code (station.given call.answer)) × (counters ≡ call.counters))
  pub station : (o : station.Outcome) (r : ℤ) (words room : List ℕ) → Stands o r words room
      → (a : Answer) × (station.Is o a words room × (r ≡ answer_code (station.given a)))
  pub writer : (o : writing.Outcome) (r : ℤ) (room : List ℕ) → Writes o r room
      → (w : Written) × (writing.Is o w room × (r ≡ code (writing.given w)))
  pub laser-writer : (o : laser.Outcome) (r : ℤ) (room : List ℕ) → LaserWrites o r room
      → (w : head.Written) × (laser.Is o w room × (r ≡ code (laser.given_written w)))
  pub filling : (file asked lent : List ℕ) (r : ℤ) (attributes : List ℕ) → Fills (files.outcome file asked lent) r attributes
      → (x : Filled) × (files.Is (files.outcome file asked lent) x attributes × (r ≡ code (files.given x)))
  pub reader : (form : Form) (station : ℕ) (a : Ask) (cs vs ws f : List ℕ)
      → Through (λ (x : Reply). replies.read_of x f) reply_code (replies.read (limits_of form) station (asking a cs vs ws) f)
  pub laser-reader : (f : List ℕ) → Through (λ (x : Reading). laser.given x (laser.bytes_of (laser.read f))) laser_code (laser.read f)
  pub distance : (f : List ℕ) → Through laser.given_distance distance_code (laser.distance_of f)
  pub register-address : (x : ℕ) → Through given_at code (register_address x)
  pub register-number : (x : ℕ) → Through given_is code (register_number x)
  pub coil-address : (x : ℕ) → Through given_coil_at code (coil_address x)
  pub coil-number : (x : ℕ) → Through given_coil_is code (coil_number x)
  pub bits-differing : (f g : List ℕ) → Through count.given code (count.bit_count f g)
  pub pair-low : (z : ℤ) → Through pairs.given low_code (pairs.pair_words z)
  pub pair-high : (z : ℤ) → Through pairs.given high_code (pairs.pair_words z)
