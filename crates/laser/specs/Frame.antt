-- The laser head's frames (RULES C9, L1 to L6; document 004): `/`, two decimal digits n, two command bytes, n data bytes
-- of any value, the check, `.`. The end is found by the length alone. Assumes nothing.
use Rattle.std.specs.Prelude.{ℕ, ◌+◌, ◌-◌, ◌≡◌, List, [], ◌∷◌, ◌++◌, Bool, false, eqb, leb, length, get_or, take, drop}
use Rattle.rules.specs.Choice.{both}
use Rattle.rules.specs.Tests.{first, ◌unless◌}
use Rattle.rules.specs.Given.{Given, gives, refused, refusal}
use Rattle.rules.specs.Characters.{slash, period, digit0, letter_d}
use Rattle.text_rooms.specs.Room.{overwrite}
use Rattle.text_digits.specs.Digits.{with_number, or_place, decimal, decimals}
use Rattle.checks_xor.specs.Xor.{right_xor, closing}
use Rattle.laser.specs.declared.Reading.{Reading}
use Rattle.laser.specs.declared.Reading.TheVariants as reading
use Rattle.laser.specs.declared.Written.{Written}
use Rattle.laser.specs.declared.Written.TheVariants as written
use Rattle.laser.specs.declared.Distance.{Distance}
use Rattle.laser.specs.declared.Distance.TheVariants as distance

-- ---- the reader

-- `/` first, `.` last, and 8 + n characters in all
unfoldable pub good_shape : List ℕ → Bool
good_shape f =
    with_number (decimal 2 (drop 1 f))
    (λ n. both (eqb (length f) (8 + n)) (both (eqb (get_or f 0 0) slash) (eqb (get_or f (length f - 1) 0) period))) false

-- nothing is stripped before the check: it covers all but its own two characters and the `.`
abbrev pub good_check : List ℕ → Bool
good_check f = right_xor (take (length f - 1) f)

-- the n bytes between the command and the check
abbrev pub data_of : List ℕ → List ℕ
data_of f = take (length f - 8) (drop 5 f)

-- a frame: two command bytes and its data; or a refusal's number
pub data Read : Type 0 where
  frame : (first second : ℕ) (bytes : List ℕ) → Read
  none : ℕ → Read

-- shape 10, then check 11
unfoldable pub read : List ℕ → Read
read f = first none ((10 unless good_shape f) ∷ (11 unless good_check f) ∷ []) (frame (get_or f 3 0) (get_or f 4 0) (data_of f))

-- the data of what was read; of a refusal none
abbrev pub bytes_of : Read → List ℕ
bytes_of (frame a b d) = d
bytes_of (none k) = []

-- where they stand, in a frame that starts at a block's place: behind five characters; the empty part of a refusal at the frame's start
abbrev pub place_of : Read → ℕ × ℕ → ℕ × ℕ
place_of (frame a b d) start = (start.0, 5 + start.1)
place_of (none k) start = start

-- the part of a frame that holds the data: its bytes, and where it stands
pub record Part (r : Read) (start : ℕ × ℕ) (bytes : List ℕ) (place : ℕ × ℕ) : Type 0 where
  pub bytes-are : bytes ≡ bytes_of r
  pub place_is : place ≡ place_of r start

-- the reader's answer and, beside it, the part that holds the data
abbrev pub given : Reading → List ℕ → Read
given (reading.Frame a b) d = frame a b d
given (reading.Refused r) d = none r.0

-- ---- the writer

-- all before the check
abbrev pub front_of : ℕ → ℕ → List ℕ → List ℕ
front_of a b d = (slash ∷ []) ++ decimals 2 (length d) ++ (a ∷ []) ++ (b ∷ []) ++ d

abbrev pub frame_of : ℕ → ℕ → List ℕ → List ℕ
frame_of a b d = front_of a b d ++ closing (front_of a b d) period

-- what the writer gives, and what stands in the room after it
pub record Outcome : Type 0 where
  pub number : Given
  pub room : List ℕ

abbrev pub left : List ℕ → ℕ → Outcome
left room k = record { number = refused k; room = room }

abbrev pub sent : List ℕ → List ℕ → Outcome
sent room m = record { number = gives (length m); room = overwrite room 0 m }

-- 3 for a room under 118 bytes, then 14 for more than 99 data bytes
unfoldable pub write : List ℕ → ℕ → ℕ → List ℕ → Outcome
write room a b d = first (left room) ((3 unless leb 118 (length room)) ∷ (14 unless leb (length d) 99) ∷ []) (sent room (frame_of a b d))

abbrev pub given_written : Written → Given
given_written (written.Frame n) = gives n
given_written (written.Refused r) = refusal r

pub record Is (o : Outcome) (w : Written) (room : List ℕ) : Type 0 where
  pub answer-is : given_written w ≡ o.number
  pub room-is : room ≡ o.room

-- ---- the distance

-- a distance; 13, with a place in the frame; or another refusal's number
pub data Told : Type 0 where
  measures : ℕ → Told
  unasked : ℕ → Told
  declined : ℕ → Told

-- six data bytes, from place 5 of the frame on: five digits, hundredths of a millimetre, and 00h; else 13 at the first that is wrong
unfoldable pub distance_at : List ℕ → Told
distance_at d = or_place (decimal 5 d) (λ v. first unasked ((10 unless eqb (get_or d 5 0) 0) ∷ []) (measures v)) (λ p. unasked (5 + p))

-- command `0D`, and six data bytes, in a frame with so many characters; else 13 at its end
unfoldable pub distance_in : ℕ → ℕ → ℕ → List ℕ → Told
distance_in end a b d = first unasked ((end unless eqb a digit0) ∷ (end unless eqb b letter_d) ∷ (end unless eqb (length d) 6) ∷ []) (distance_at d)

-- of a frame that the reader takes; what it refuses keeps its number
unfoldable pub distance_of : List ℕ → Told
distance_of f =
    first declined ((10 unless good_shape f) ∷ (11 unless good_check f) ∷ []) (distance_in (length f) (get_or f 3 0) (get_or f 4 0) (data_of f))

abbrev pub given_distance : Distance → Told
given_distance (distance.Hundredths v) = measures v
given_distance (distance.NotAsked p) = unasked p
given_distance (distance.Refused r) = declined r.0
