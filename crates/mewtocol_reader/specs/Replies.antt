-- What a host reads in a reply to what it asked: a row of tests in their order (RULES C9, H6 to H10). Assumes nothing.
use Rattle.std.specs.Prelude.{ℕ, ◌+◌, ◌*◌, ◌≡◌, List, [], ◌∷◌, Bool, true, false, eqb, length, drop, get_or}
use Rattle.rules.specs.Choice.{pick, between, first_not}
use Rattle.rules.specs.Characters.{bang, digit0, dollar}
use Rattle.rules.specs.Tests.{◌unless◌, first}
use Rattle.text_digits.specs.Digits.{is_digit, or_place}
use Rattle.text_hex.specs.Hex.{hex_value, hex}
use Rattle.mewtocol_frame.specs.Frame.{limits_in, highest, good_shape, good_check, for_station, text_of}
use Rattle.mewtocol_frame.specs.Text.{span, starts}
use Rattle.mewtocol_frame.specs.declared.Limits.{Limits}
use Rattle.mewtocol_requests.specs.Requests.{Request, read_contacts, write_contacts, read_range, write_range, fill, letters}
use Rattle.mewtocol_asking.specs.Asking.{Asking, request_in, ask_tests}
use Rattle.mewtocol_reader.specs.declared.Reply.{Reply}
use Rattle.mewtocol_reader.specs.declared.Reply.TheVariants as reply

-- a refusal's number; 13, with a place in the frame; the number of the station's error; or the characters of the data
pub data Read : Type 0 where
  refused : ℕ → Read
  unasked : ℕ → Read
  error : ℕ → Read
  shows : List ℕ → Read

-- how many characters of data a request calls for: one a contact, four a word; a write calls for none
unfoldable pub data_size : Request → ℕ
data_size (read_contacts cs) = length cs
data_size (write_contacts ss) = 0
data_size (read_range a s e) = 4 * span s e
data_size (write_range a s e ws) = 0
data_size (fill s e w) = 0

abbrev pub tells_contacts : Request → Bool
tells_contacts (read_contacts cs) = true
tells_contacts (write_contacts ss) = false
tells_contacts (read_range a s e) = false
tells_contacts (write_range a s e ws) = false
tells_contacts (fill s e w) = false

-- what may stand in data: `0` and `1` where it tells contacts, else upper-case hex characters
abbrev pub allowed : Bool → ℕ → Bool
allowed contacts x = pick contacts (between digit0 (digit0 + 1) x) (is_digit (hex_value x))

-- the place of the first character that may not stand in the data of a reply; the data's length where all may
abbrev pub first_wrong : Request → List ℕ → ℕ
first_wrong q d = first_not (allowed (tells_contacts q)) d

-- after `!`: two upper-case hex characters, the fourth and the fifth place of the frame; another length is 13 at the frame's end
unfoldable pub error_in : ℕ → List ℕ → Read
error_in end t = first unasked ((end unless eqb (length t) 2) ∷ []) (or_place (hex 2 t) error (λ p. unasked (4 + p)))

-- after `$`: the request's two letters, else 13 at the frame's end; exactly as much data as it calls for, else the same; and in data, which begins at
-- place 6, no character that may not stand there, else 13 at the first
unfoldable pub data_in : Request → ℕ → List ℕ → Read
data_in q end t =
    let d : List ℕ = drop 2 t in
    first unasked
    ((end unless starts (letters q) t) ∷ (end unless eqb (length d) (data_size q)) ∷ ((6 + first_wrong q d) unless eqb (first_wrong q d) (length d)) ∷ [])
    (shows d)

-- what follows the station's digits, in a frame with so many characters; any other mark is no reply, 13 at the frame's end
unfoldable pub reply_in : Request → ℕ → ℕ → List ℕ → Read
reply_in q end mark t = pick (eqb mark bang) (error_in end t) (pick (eqb mark dollar) (data_in q end t) (unasked end))

-- a good frame with another header than that of the form that was asked is no reply, 13 at the frame's end
unfoldable pub form_reply : Limits → Request → List ℕ → Read
form_reply l q f = first unasked ((length f unless eqb (get_or f 0 0) l.header) ∷ []) (reply_in q (length f) (get_or f 3 0) (text_of f))

-- the shape in the frame's own form, 10; the check, 11; the station, 12; and then the reply
unfoldable pub read_frame : Limits → ℕ → Request → List ℕ → Read
read_frame l from q f = first refused ((10 unless good_shape (limits_in f) 9 f) ∷ (11 unless good_check f) ∷ (12 unless for_station from f) ∷ []) (form_reply l q f)

-- 2 for a station outside 1 to 99, 14 for what can't have been asked, and then the frame
unfoldable pub read : Limits → ℕ → Asking → List ℕ → Read
read l from a f = first refused ((2 unless between 1 highest from) ∷ ask_tests l a) (read_frame l from (request_in a) f)

-- the part of a frame that holds data, where it holds any
abbrev pub data_of : List ℕ → List ℕ
data_of f = drop 2 (text_of f)

-- what the reader's answer says of the frame
abbrev pub read_of : Reply → List ℕ → Read
read_of reply.Shows f = shows (data_of f)
read_of (reply.Error e) f = error e
read_of (reply.NotAsked p) f = unasked p
read_of (reply.Refused r) f = refused r.0

-- the data of what was read; of an error reply and of a refusal none
abbrev pub bytes_of : Read → List ℕ
bytes_of (refused k) = []
bytes_of (unasked p) = []
bytes_of (error e) = []
bytes_of (shows t) = t

-- where it stands, in a frame that starts at a block's place: behind six characters; the empty part of an error and of a refusal at the frame's start
abbrev pub place_of : Read → ℕ × ℕ → ℕ × ℕ
place_of (refused k) start = start
place_of (unasked p) start = start
place_of (error e) start = start
place_of (shows t) start = (start.0, 6 + start.1)

-- the part of a frame that holds the data: its bytes, and where it stands
pub record Part (r : Read) (start : ℕ × ℕ) (bytes : List ℕ) (place : ℕ × ℕ) : Type 0 where
  pub bytes-are : bytes ≡ bytes_of r
  pub place_is : place ≡ place_of r start
