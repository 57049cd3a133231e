-- The third demand: a good frame that the line damaged moves no register and gives no value (RULES P5, D3 to D7; damage
-- is as crate `theorems_damage` defines it). Proved in proofs/Damaged. Assumes nothing.
use Rattle.std.specs.Prelude.{ℕ, Bool, true, List, [], ◌∷◌, ◌++◌, ◌⊎◌, ◌≢◌, ◌≡◌, length, get_or, take}
use Rattle.rules.specs.Choice.{between}
use Rattle.checks_xor.specs.Xor.{xor_of}
use Rattle.checks_shared.specs.Line.{Bytes}
use Rattle.checks_crc.specs.Crc.{right_crc}
use Rattle.checks_lrc.specs.Lrc.{right_lrc}
use Rattle.theorems_damage.specs.Damage.{Damage, OneChanged}
use Rattle.station.specs.Site.{Site, error}
use Rattle.station.specs.Outcome.{Outcome, silent, sent, Is}
use Rattle.station.specs.declared.Answer.{Answer}
use Rattle.modbus_rtu.specs.Rtu.{rtu_station}
use Rattle.modbus_ascii.specs.Ascii.{good_ascii, bytes_of, ascii_station}
use Rattle.mewtocol_frame.specs.Frame.{limits_of, limits_in, good_shape, good_check}
use Rattle.mewtocol_frame.specs.declared.Form.{Form}
use Rattle.mewtocol_station.specs.Replies.{reply_frame}
use Rattle.mewtocol_station.specs.Station.{mewtocol_station}
use Rattle.mewtocol_asking.specs.Asking.{Asking}
use Rattle.mewtocol_reader.specs.Replies as replies
use Rattle.mewtocol_reader.specs.declared.Reply.{Reply}
use Rattle.laser.specs.Frame as laser
use Rattle.laser.specs.declared.Reading.{Reading}
use Rattle.laser.specs.declared.Distance.{Distance}
use Rattle.modbus_counters.specs.declared.Counters.{Counters}
use Rattle.claims.specs.Calls.{stood}

-- a good frame went out: bytes whose shape and check are right, whichever station it names; bytes with some harm came in
pub record Struck (shape check : List ℕ → Bool) (Harm : List ℕ → List ℕ → Type 0) (went came : List ℕ) : Type 0 where
  pub bytes : Bytes went × Bytes came
  pub shape-right : shape went ≡ true
  pub check-right : check went ≡ true
  pub harm : Harm went came

-- RTU: 1, 2, 3 or any odd number of bits flipped, or any within 16 in a row; as many bytes
abbrev pub RtuStruck : List ℕ → List ℕ → Type 0
RtuStruck = Struck (λ f. between 4 256 (length f)) right_crc (λ f g. (length f ≡ length g) × Damage f g)

-- the texts: one character changed, to any other byte
abbrev pub AsciiStruck : List ℕ → List ℕ → Type 0
AsciiStruck = Struck good_ascii (λ f. right_lrc (bytes_of f)) OneChanged

-- in either form, whose header may be the character; a request has 8 characters at least, a reply 9
abbrev pub MewtocolStruck : ℕ → List ℕ → List ℕ → Type 0
MewtocolStruck least = Struck (λ f. good_shape (limits_in f) least f) good_check OneChanged

abbrev pub LaserStruck : List ℕ → List ℕ → Type 0
LaserStruck = Struck laser.good_shape laser.good_check OneChanged

abbrev pub OneOf : List ℕ → ℕ → Type 0
OneOf [] n = ⊥
OneOf (k ∷ ks) n = (n ≡ k) ⊎ OneOf ks n

-- nothing goes on the line: the call gives one of these numbers, and words and room are as before
pub record Silence (numbers words room : List ℕ) (call : Outcome) : Type 0 where
  pub number : ℕ
  pub listed : OneOf numbers number
  pub is : call ≡ silent words room number

-- the host's reader, whatever form was asked, gives one of four numbers, and its part is the empty one at the frame's start
pub record NoReply (form : Form) (to : ℕ) (a : Asking) (frame : List ℕ) : Type 0 where
  pub number : ℕ
  pub listed : OneOf (2 ∷ 10 ∷ 11 ∷ 14 ∷ []) number
  pub reply-is : (r : Reply) → replies.read_of r frame ≡ replies.read (limits_of form) to a frame → replies.read_of r frame ≡ replies.refused number
  pub part-is : (start place : ℕ × ℕ) (bytes : List ℕ) → replies.Part (replies.read (limits_of form) to a frame) start bytes place → (bytes ≡ []) × (place ≡ start)

-- so does the laser head's, of two, and the distance is that number and no value
pub record NoFrame (frame : List ℕ) : Type 0 where
  pub number : ℕ
  pub listed : OneOf (10 ∷ 11 ∷ []) number
  pub reading-is : (r : Reading) → laser.given r (laser.bytes_of (laser.read frame)) ≡ laser.read frame → laser.given r [] ≡ laser.none number
  pub part-is : (start place : ℕ × ℕ) (bytes : List ℕ) → laser.Part (laser.read frame) start bytes place → (bytes ≡ []) × (place ≡ start)
  pub distance_is : (d : Distance) → laser.given_distance d ≡ laser.distance_of frame → laser.given_distance d ≡ laser.declined number

-- whatever the table, own station, counters, room or asking, and whatever the promise of an entry allows it to give and leave: silence, or (MEWTOCOL) exactly
-- error 40, with the header that arrived and every word as before, or the reader's refusal
pub record LineDamage (c : Counters) (site : Site) (words room went came : List ℕ) : Type 0 where
  pub rtu : RtuStruck went came → (a : Answer) (words' room' : List ℕ) → Is (rtu_station c site words came room) a words' room'
      → Silence (1 ∷ 2 ∷ 3 ∷ 11 ∷ []) words room (stood a words' room')
  pub ascii : AsciiStruck went came → (a : Answer) (words' room' : List ℕ) → Is (ascii_station c site words came room) a words' room'
      → Silence (1 ∷ 2 ∷ 3 ∷ 10 ∷ 11 ∷ []) words room (stood a words' room')
  pub mewtocol : MewtocolStruck 8 went came → (a : Answer) (words' room' : List ℕ) → Is (mewtocol_station site words came room) a words' room'
      → Silence (1 ∷ 2 ∷ 3 ∷ 10 ∷ 12 ∷ []) words room (stood a words' room')
      ⊎ (stood a words' room' ≡ sent room (reply_frame (get_or came 0 0) site.own (error 0x40)) words)
  pub host : MewtocolStruck 9 went came → (form : Form) (to : ℕ) (a : Asking) → NoReply form to a came
  pub laser-head : LaserStruck went came → NoFrame came

-- a NUL changes no exclusive or, so a check alone can't miss one; but a laser head frame of another length than its digits say is refused
pub record LostNul : Type 0 where
  pub unseen : (a b : List ℕ) → xor_of (a ++ (0 ∷ b)) ≡ xor_of (a ++ b)
  pub refused-by-length : (went came : List ℕ) → laser.good_shape went ≡ true → take 3 came ≡ take 3 went → length came ≢ length went
      → laser.read came ≡ laser.none 10
