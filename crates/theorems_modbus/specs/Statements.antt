-- What holds of both Modbus stations, whatever they are sent (RULES P6 to P8); proved in proofs/Replies and proofs/SameBody. Assumes nothing.
use Rattle.std.specs.Prelude.{ℕ, ◌≤◌, ◌<◌, ◌≡◌, List, [], ◌∷◌, true, length}
use Rattle.checks_shared.specs.Line.{Bytes}
use Rattle.checks_crc.specs.Crc.{right_crc}
use Rattle.checks_lrc.specs.Lrc.{right_lrc}
use Rattle.table_registers.specs.Operation.{Judge}
use Rattle.table_registers.specs.Profile.{verdict}
use Rattle.table_registers.specs.declared.Profile.TheVariants.{Free}
use Rattle.station.specs.Site.{Site, site_of, good, is_good, Done}
use Rattle.station.specs.Outcome.{sent}
use Rattle.station.specs.Station.{received}
use Rattle.station.specs.declared.Whom.TheVariants.{This}
use Rattle.modbus_body.specs.Body.{function, exception, reply_to}
use Rattle.modbus_counters.specs.Counters.{came, counted, excepted}
use Rattle.modbus_counters.specs.Diagnosis.{replied}
use Rattle.modbus_counters.specs.declared.Counters.{Counters}
use Rattle.modbus_line.specs.Framing.{answered, Framing, modbus}
use Rattle.modbus_line.specs.Calls.{shown, left}
use Rattle.modbus_rtu.specs.Rtu.{rtu_frame, rtu}
use Rattle.modbus_ascii.specs.Ascii.{good_ascii, bytes_of, with_lrc, text_frame, ascii}

-- ---- every reply

-- an RTU reply has a right CRC and at most 256 bytes
pub record GoodRtu (m : List ℕ) : Type 0 where
  pub right : right_crc m ≡ true
  pub short : length m ≤ 256

abbrev pub RtuReplies : Type 0
RtuReplies = (c : Counters) (own : ℕ) (judge : Judge) (words body : List ℕ) → GoodRtu (rtu_frame own (reply_to body (answered c judge words body).says))

-- an ASCII reply is the text of bytes with a right LRC, has the shape that a station takes, and at most 513 characters
pub record GoodAscii (bytes m : List ℕ) : Type 0 where
  pub text : m ≡ text_frame bytes
  pub right : right_lrc bytes ≡ true
  pub shape : good_ascii m ≡ true
  pub short : length m ≤ 513

abbrev pub AsciiReplies : Type 0
AsciiReplies = (c : Counters) (own : ℕ) (judge : Judge) (words body : List ℕ)
    → let bytes : List ℕ = with_lrc own (reply_to body (answered c judge words body).says) in GoodAscii bytes (text_frame bytes)

-- a body that is answered by an exception changes no word, clears no counter, and is one exception more
pub record Keeps (c : Counters) (judge : Judge) (words body : List ℕ) : Type 0 where
  pub words-stay : (answered c judge words body).words ≡ words
  pub one_more : replied (is_good (answered c judge words body).says) body c ≡ excepted c

abbrev pub ExceptionKeeps : Type 0
ExceptionKeeps = (c : Counters) (judge : Judge) (words body : List ℕ) (e : ℕ) → reply_to body (answered c judge words body).says ≡ exception body e
    → Keeps c judge words body

-- function 08 changes no word, whatever it is answered
abbrev pub DiagnosisKeeps : Type 0
DiagnosisKeeps = (c : Counters) (judge : Judge) (words body : List ℕ) → function body ≡ 0x08 → (answered c judge words body).words ≡ words

-- ---- the same body in either frame

-- the bytes of a text are those that it was made from
abbrev pub ReadBack : Type 0
ReadBack = (bytes : List ℕ) → Bytes bytes → 3 ≤ length bytes → length bytes ≤ 255 → bytes_of (text_frame bytes) ≡ bytes

-- a body framed and received counts as one for this station, gets its answer, framed alike, and leaves the counters that the answer leaves
pub record Gets (m : Framing) (c : Counters) (site : Site) (words body room : List ℕ) : Type 0 where
  pub counts : shown m site.own (m.framed site.own body) c ≡ counted (came This) c
  pub answer : let d : Done = answered (counted (came This) c) site.judge words body in
      received (modbus m (counted (came This) c)) site words (m.framed site.own body) room ≡ sent room (m.framed site.own (reply_to body d.says)) d.words
  pub leaves : let heard : Counters = counted (came This) c in
      left m c site words (m.framed site.own body) ≡ replied (is_good (answered heard site.judge words body).says) body heard

-- so, sent as RTU or as ASCII, a body gets the same answer, and leaves the same words and the same counters
abbrev pub SameAnswer : Counters → Site → List ℕ → List ℕ → List ℕ → Type 0
SameAnswer c site words body room = Gets rtu c site words body room × Gets ascii c site words body room

abbrev pub SameBody : Type 0
SameBody = (c : Counters) (site : Site) (words body room : List ℕ) → site.own < 256 → Bytes body → 1 ≤ length body → length body ≤ 253
    → SameAnswer c site words body room

-- the body `06 0001 0001` is one of these; in either frame it sets the second word of a table of two, and gets a reply
abbrev pub example : List ℕ
example = 6 ∷ 0 ∷ 1 ∷ 0 ∷ 1 ∷ []

pub record Example : Type 0 where
  pub meets : Bytes example × (1 ≤ length example) × (length example ≤ 253)
  pub same : (c : Counters) (room : List ℕ) → SameAnswer c (site_of (3 ∷ 3 ∷ []) Free 1) (0 ∷ 0 ∷ []) example room
  pub done : (c : Counters) → answered c (verdict Free (3 ∷ 3 ∷ [])) (0 ∷ 0 ∷ []) example ≡ record { says = good example; words = 0 ∷ 1 ∷ [] }
  pub back : Bytes (with_lrc 1 example) × (bytes_of (text_frame (with_lrc 1 example)) ≡ with_lrc 1 example)
