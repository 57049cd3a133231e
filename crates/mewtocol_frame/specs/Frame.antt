-- The two forms of frame: what a frame is, and how one is written (RULES M1 to M4, M9). Assumes nothing.
use Rattle.std.specs.Prelude.{ℕ, ◌+◌, ◌-◌, ◌*◌, ◌≤◌, ◌≡◌, List, [], ◌∷◌, ◌++◌, Bool, true, false, length, take, drop, get_or, eqb}
use Rattle.rules.specs.Choice.{pick, both, between, all_between}
use Rattle.rules.specs.Characters.{CR, percent}
use Rattle.text_digits.specs.Digits.{with_number, decimal, decimals}
use Rattle.checks_xor.specs.Xor.{right_xor, closing}
use Rattle.mewtocol_frame.specs.declared.Form.{Form}
use Rattle.mewtocol_frame.specs.declared.Form.TheVariants.{Ordinary, Expanded}
use Rattle.mewtocol_frame.specs.declared.Limits.{Limits}

-- the ordinary form: `%`, at most 118 characters, 27 words read and 24 written
abbrev pub ordinary : Limits
ordinary = record { header = percent; longest = 118; reads = 27; writes = 24 }

-- `<`, the header of the expanded form
abbrev pub less_than : ℕ
less_than = 0x3C

-- the expanded form: `<`, at most 2,048 characters, 509 words read and 507 written
abbrev pub expanded : Limits
expanded = record { header = less_than; longest = 2048; reads = 509; writes = 507 }

abbrev pub limits_of : Form → Limits
limits_of Ordinary = ordinary
limits_of Expanded = expanded

-- the form that a frame's first character says; a frame that begins with neither header has the shape of neither form
unfoldable pub form_in : List ℕ → Form
form_in f = pick (eqb (get_or f 0 0) less_than) Expanded Ordinary

abbrev pub limits_in : List ℕ → Limits
limits_in f = limits_of (form_in f)

-- the longest frame of all: the room that a reply in either form may take
abbrev pub longest_of_all : ℕ
longest_of_all = 2048

-- a form's longest frame holds what it allows: eight contacts with their values, the words that a reply shows and that a request writes
pub record Roomy (l : Limits) : Type 0 where
  pub contacts : 59 ≤ l.longest
  pub reads : 9 + 4 * l.reads ≤ l.longest
  pub writes : 20 + 4 * l.writes ≤ l.longest

-- a station's number is 1 to 99
abbrev pub highest : ℕ
highest = 99

-- length from `least` to the form's longest, first its header, last CR, all between from 20h to 7Eh
unfoldable pub good_shape : Limits → ℕ → List ℕ → Bool
good_shape l least f =
    both (between least l.longest (length f))
    (both (eqb (get_or f 0 0) l.header)
    (both (eqb (get_or f (length f - 1) 0) CR)
    (all_between 0x20 0x7E (take (length f - 2) (drop 1 f)))))

-- the two station characters are decimal digits equal to this station
unfoldable pub for_station : ℕ → List ℕ → Bool
for_station own f = with_number (decimal 2 (drop 1 f)) (λ v. eqb v own) false

-- the two characters before CR are the upper-case hex of the exclusive or of everything before them
abbrev pub good_check : List ℕ → Bool
good_check f = right_xor (take (length f - 1) f)

-- what stands between the fourth character and the check
abbrev pub text_of : List ℕ → List ℕ
text_of f = take (length f - 7) (drop 4 f)

-- such a frame: its shape, from `least` characters on, and its check are right
pub record Framed (l : Limits) (least : ℕ) (f : List ℕ) : Type 0 where
  pub shape : good_shape l least f ≡ true
  pub check : good_check f ≡ true

-- ---- a frame written

-- the header character, the station's two digits, and a mark
unfoldable pub opening : ℕ → ℕ → ℕ → List ℕ
opening header station mark = (header ∷ []) ++ decimals 2 station ++ (mark ∷ [])

-- a text, its check and CR
unfoldable pub sealed : List ℕ → List ℕ
sealed front = front ++ closing front CR
