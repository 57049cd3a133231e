-- What holds of the reader besides its promises; proved in proofs/Statements and proofs/Places. Assumes nothing.
use Rattle.std.specs.Prelude.{ℕ, ◌-◌, ◌≤◌, ◌<◌, ◌≡◌, List, Bool, true, false, eqb, ltb, length, get_or}
use Rattle.rules.specs.Choice.{pick, both}
use Rattle.rules.specs.Characters.{bang, dollar}
use Rattle.text_digits.specs.Digits.{is_digit}
use Rattle.text_hex.specs.Hex.{hex_value}
use Rattle.mewtocol_frame.specs.Frame.{limits_in, good_shape, text_of, opening}
use Rattle.mewtocol_frame.specs.Text.{starts}
use Rattle.mewtocol_frame.specs.declared.Limits.{Limits}
use Rattle.mewtocol_requests.specs.Requests.{Request, letters}
use Rattle.mewtocol_asking.specs.Asking.{Asking, request_in}
use Rattle.mewtocol_reader.specs.Replies.{Read, unasked, data_size, tells_contacts, allowed, read, data_of, read_of}
use Rattle.mewtocol_reader.specs.declared.Reply.{Reply}

-- one answer only
abbrev pub OneRead : Type 0
OneRead = (f : List ℕ) (r : Read) (a b : Reply) → read_of a f ≡ r → read_of b f ≡ r → a ≡ b

-- ---- 13, and the place that is told with it

-- mark, letters and length are right: `!` and two characters, or `$`, the request's letters and its data
abbrev pub right_text : Request → List ℕ → Bool
right_text q f =
    pick (eqb (get_or f 3 0) bang) (eqb (length (text_of f)) 2)
    (both (eqb (get_or f 3 0) dollar) (both (starts (letters q) (text_of f)) (eqb (length (data_of f)) (data_size q))))

-- and the header is that of the form that was asked, so that whatever is wrong is one character
abbrev pub right_form : Limits → Request → List ℕ → Bool
right_form l q f = both (eqb (get_or f 0 0) l.header) (right_text q f)

-- what may stand at place i of a reply with this mark: the form's header, the station's digits and the mark; after `!` upper-case hex; after `$` the
-- request's two letters, and then what may stand in its data
abbrev pub may_stand : Limits → ℕ → Request → ℕ → ℕ → ℕ → Bool
may_stand l from q mark i x =
    pick (ltb i 4) (eqb x (get_or (opening l.header from mark) i 0))
    (pick (eqb mark bang) (is_digit (hex_value x))
    (pick (ltb i 6) (eqb x (get_or (letters q) (i - 4) 0)) (allowed (tells_contacts q) x)))

-- the place is below the frame's length exactly where the form is right; what stands there may not, and all before it may
pub record WrongAt (l : Limits) (from : ℕ) (q : Request) (f : List ℕ) (p : ℕ) : Type 0 where
  pub shape : good_shape (limits_in f) 9 f ≡ true
  pub within : p ≤ length f
  pub one-wrong : p < length f → right_form l q f ≡ true
  pub form-right : right_form l q f ≡ true → p < length f
  pub there : p < length f → may_stand l from q (get_or f 3 0) p (get_or f p 0) ≡ false
  pub before : p < length f → (i : ℕ) → i < p → may_stand l from q (get_or f 3 0) i (get_or f i 0) ≡ true

-- so it is wherever 13 is read
abbrev pub WrongPlace : Type 0
WrongPlace = (l : Limits) (from : ℕ) (a : Asking) (f : List ℕ) (p : ℕ) → read l from a f ≡ unasked p → WrongAt l from (request_in a) f p
