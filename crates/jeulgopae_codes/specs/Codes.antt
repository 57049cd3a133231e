-- An answer as one number for C (include/jeulgopae.h): from 0 on a length or a value, below 0 none (RULES F1, F2). Assumes nothing.
use Rattle.std.specs.Prelude.{ℕ, zero, suc, ◌+◌, ◌*◌, ◌<◌, ◌≤◌, ◌≡◌, List, ℤ, pos, negsuc, length}
use Rattle.rules.specs.Given.{Given, gives, refused}
use Rattle.text_digits.specs.declared.Number.{Number}
use Rattle.text_digits.specs.declared.Number.TheVariants.{Value, NoDigitAt}
use Rattle.station.specs.Outcome.{Returned, replied, carried_out, numbered}
use Rattle.mewtocol_reader.specs.Replies as replies
use Rattle.laser.specs.Frame as laser

-- a number below zero
abbrev pub minus : ℕ → ℤ
minus zero = pos 0
minus (suc k) = negsuc k

-- a length or a value as it is; a refusal's number below zero
abbrev pub code : Given → ℤ
code (gives n) = pos n
code (refused k) = minus k

-- a station's reply by its length; 15, and every other number, below zero
abbrev pub answer_code : Returned → ℤ
answer_code (replied n) = pos n
answer_code carried_out = minus 15
answer_code (numbered k) = minus k

-- 13 and its place, in one number: -130007 is 13 at place 7
abbrev pub place_code : ℕ → ℤ
place_code p = minus (130000 + p)

-- how many characters of data a MEWTOCOL reply holds; the station's error from -256 down; 13 with its place; another refusal
abbrev pub reply_code : replies.Read → ℤ
reply_code (replies.shows t) = pos (length t)
reply_code (replies.error e) = minus (256 + e)
reply_code (replies.unasked p) = place_code p
reply_code (replies.refused k) = minus k

-- a laser head's two command bytes and how many bytes of data it holds; a refusal
abbrev pub laser_code : laser.Read → ℤ
laser_code (laser.frame first second bytes) = pos (65536 * first + 256 * second + length bytes)
laser_code (laser.none k) = minus k

-- a distance; 13 with its place; another refusal
abbrev pub distance_code : laser.Told → ℤ
distance_code (laser.measures v) = pos v
distance_code (laser.unasked p) = place_code p
distance_code (laser.declined k) = minus k

-- a word or a contact of a reply's data; -1000 where none stands
abbrev pub data_code : Number → ℤ
data_code (Value n) = pos n
data_code (NoDigitAt _) = minus 1000

-- a value has room below the sign of an i32
abbrev pub Small : Given → Type 0
Small g = (n : ℕ) → g ≡ gives n → n < 2147483648

abbrev pub SmallReply : Returned → Type 0
SmallReply r = (n : ℕ) → r ≡ replied n → n < 2147483648

abbrev pub SmallNumber : Number → Type 0
SmallNumber n = (v : ℕ) → n ≡ Value v → v < 2147483648

-- a frame that shows data has the nine characters around it, and no more than a frame may have; a place is within such a frame
abbrev pub Short : replies.Read → List ℕ → Type 0
Short x f = ((t : List ℕ) → x ≡ replies.shows t → (9 ≤ length f) × (length f ≤ 2048)) × ((p : ℕ) → x ≡ replies.unasked p → p ≤ 2048)
