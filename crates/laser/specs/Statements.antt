-- What holds of the laser head's reader, writer and distance; proved in proofs/WrittenFrames, proofs/Distances and proofs/Places. Assumes nothing.
use Rattle.std.specs.Prelude.{ℕ, ◌≤◌, ◌<◌, ◌≡◌, List, [], ◌∷◌, ◌++◌, Bool, true, false, eqb, ltb, length, get_or, take}
use Rattle.rules.specs.Choice.{pick, both}
use Rattle.rules.specs.Characters.{slash, digit0, letter_d}
use Rattle.text_digits.specs.Digits.{is_digit, decimal_value, decimals}
use Rattle.laser.specs.Frame.{good_shape, data_of, read, frame, write, Is, measures, unasked, distance_of}
use Rattle.laser.specs.declared.Written.TheVariants.{Frame}

-- where the writer gives n, the reader takes the first n bytes of the room after it, with the same command and the same data
abbrev pub ReadBack : Type 0
ReadBack = (room : List ℕ) (a b : ℕ) (d : List ℕ) (n : ℕ) (room' : List ℕ) → Is (write room a b d) (Frame n) room' → read (take n room') ≡ frame a b d

-- a distance is below 100,000 hundredths
abbrev pub SmallDistance : Type 0
SmallDistance = (f : List ℕ) (v : ℕ) → distance_of f ≡ measures v → v < 100000

-- ---- 13, and the place that is told with it

-- command and length are right, so that whatever is wrong is one character: `0D` and six data bytes
abbrev pub right_form : List ℕ → Bool
right_form f = both (eqb (get_or f 3 0) digit0) (both (eqb (get_or f 4 0) letter_d) (eqb (length (data_of f)) 6))

-- what stands before the data of a frame that tells a distance: `/06` and `0D`
abbrev pub distance_front : List ℕ
distance_front = (slash ∷ []) ++ decimals 2 6 ++ (digit0 ∷ letter_d ∷ [])

-- what may stand at place i of such a frame: the front; five decimal digits; 00h
abbrev pub may_stand : ℕ → ℕ → Bool
may_stand i x = pick (ltb i 5) (eqb x (get_or distance_front i 0)) (pick (ltb i 10) (is_digit (decimal_value x)) (eqb x 0))

-- the place is below the frame's length exactly where the form is right; what stands there may not, and all before it may
pub record WrongAt (f : List ℕ) (p : ℕ) : Type 0 where
  pub shape : good_shape f ≡ true
  pub within : p ≤ length f
  pub one-wrong : p < length f → right_form f ≡ true
  pub form-right : right_form f ≡ true → p < length f
  pub there : p < length f → may_stand p (get_or f p 0) ≡ false
  pub before : p < length f → (i : ℕ) → i < p → may_stand i (get_or f i 0) ≡ true

-- so it is wherever 13 is told
abbrev pub WrongPlace : Type 0
WrongPlace = (f : List ℕ) (p : ℕ) → distance_of f ≡ unasked p → WrongAt f p
