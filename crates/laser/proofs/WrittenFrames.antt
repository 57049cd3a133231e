-- What the writer writes: its length, the writer's three ways, and that the reader takes it, part by part. Assumes nothing.
use mathlib.Core.Path.{◌≡◌, sym, ap, ap₂, ◌∙◌}
use mathlib.Core.List.{List, [], ◌∷◌, ◌++◌, append_assoc}
use mathlib.Core.Bool.{true}
use Prim.Native.Nat.{ℕ, ◌+◌, ◌-◌, ◌≤◌, ◌<◌}
use native.Mathlib.Omega.{arith}
use borrow.Author.Tests.{eq-eqb, le-leb, lt-leb, leb-true}
use lib.Dec.{leb}
use lib.ListN.{length, get_or, take, drop, length-append}
use lib.Seq.{take_at, get_or-append_seam}
use Rattle.rules.specs.Characters.{period}
use Rattle.rules.specs.Given.{gives}
use Rattle.rules.proofs.Choose.{pick_all}
use Rattle.text_rooms.specs.Room.{overwrite}
use Rattle.text_rooms.proofs.Overwrite.{overwrite-front}
use Rattle.text_digits.specs.Digits.{digits_in, decimal}
use Rattle.text_digits.specs.declared.Number.TheVariants.{Value}
use Rattle.text_digits.proofs.Back.{decimal-back}
use Rattle.checks_xor.specs.Xor.{xor_bytes, right_xor, closing}
use Rattle.checks_xor.proofs.Closing.{right-xor-of}
use Rattle.laser.specs.Frame.{good_shape, good_check, data_of, frame, read, front_of, frame_of, Outcome, write, Is}
use Rattle.laser.specs.Statements.{ReadBack}
use Rattle.laser.specs.declared.Written.TheVariants.{Frame, Refused}

pub front_length : (a b : ℕ) (d : List ℕ) → length (front_of a b d) ≡ 5 + length d
unfolding digits_in
front_length a b d = omega arith

pub frame-length : (a b : ℕ) (d : List ℕ) → length (frame_of a b d) ≡ length (front_of a b d) + 3
unfolding digits_in
frame-length a b d = length-append (front_of a b d) (closing (front_of a b d) period)

-- ---- the writer's three ways

pub refused-small : (room : List ℕ) (a b : ℕ) (d : List ℕ) → length room < 118 → Is (write room a b d) (Refused (record { 0 = 3 })) room
unfolding write
refused-small room a b d h = record { answer-is = rw (lt-leb 118 (length room) h); room-is = rw (lt-leb 118 (length room) h) }

pub refused-long : (room : List ℕ) (a b : ℕ) (d : List ℕ) → 118 ≤ length room → 99 < length d → Is (write room a b d) (Refused (record { 0 = 14 })) room
unfolding write
refused-long room a b d h k = record {
  answer-is = rw (le-leb 118 (length room) h, lt-leb (length d) 99 k);
  room-is = rw (le-leb 118 (length room) h, lt-leb (length d) 99 k);
}

pub written : (room : List ℕ) (a b : ℕ) (d : List ℕ) (n : ℕ) (room' : List ℕ) → 118 ≤ length room → length d ≤ 99
    → n ≡ length (frame_of a b d) → room' ≡ overwrite room 0 (frame_of a b d) → Is (write room a b d) (Frame n) room'
unfolding write
written room a b d n room' h k e r = record {
  answer-is = rw (le-leb 118 (length room) h, le-leb (length d) 99 k, e);
  room-is = rw (le-leb 118 (length room) h, le-leb (length d) 99 k) r;
}

-- ---- what is written is read back

module _ (a b : ℕ) (d : List ℕ) (h : length d ≤ 99) where
  abbrev front : List ℕ
  front = front_of a b d

  abbrev whole : List ℕ
  whole = frame_of a b d

  long : length whole ≡ 8 + length d
  long = omega (arith, frame-length a b d, front_length a b d)

  -- all but the closing character
  abbrev checked : List ℕ
  checked = front ++ xor_bytes front

  split : whole ≡ checked ++ (period ∷ [])
  split = sym (append_assoc front (xor_bytes front) (period ∷ []))

  checked-length : length checked ≡ length whole - 1
  checked-length = omega (arith, ap length split, length-append checked (period ∷ []))

  counted : decimal 2 (drop 1 whole) ≡ Value (length d)
  unfolding digits_in
  counted = decimal-back 2 (length d) _ (omega arith)

  last-dot : get_or whole (length whole - 1) 0 ≡ period
  last-dot = ap₂ (λ (l : List ℕ) (k : ℕ). get_or l k 0) split (sym checked-length) ∙ get_or-append_seam checked period [] 0

  shape : good_shape whole ≡ true
  unfolding good_shape digits_in
  shape = rw (counted, eq-eqb _ _ long, eq-eqb _ _ last-dot)

  check : good_check whole ≡ true
  check =
      ap right_xor (ap (take (length whole - 1)) split ∙ take_at checked (period ∷ []) (length whole - 1) checked-length)
      ∙ right-xor-of front

  bytes : data_of whole ≡ d
  unfolding digits_in
  bytes =
      let n : length d ≡ length whole - 8 = omega (arith, long) in
      take_at d (closing front period) (length whole - 8) n

  taken : read whole ≡ frame a b d
  unfolding read digits_in
  taken = rw (shape, check, bytes)

-- a writer that gives n has written a frame of n bytes, with 99 data bytes at most
gave : (room : List ℕ) (a b : ℕ) (d : List ℕ) (n : ℕ) (room' : List ℕ) → Is (write room a b d) (Frame n) room' → (length d ≤ 99) × (take n room' ≡ frame_of a b d)
unfolding write
gave room a b d n room' w =
    pick_all P (leb 118 (length room)) _ _
    (λ _. pick_all P (leb (length d) 99) _ _
    (λ few e r. let same : n ≡ length (frame_of a b d) = cc in (leb-true (length d) 99 few, ap₂ take same r ∙ overwrite-front room (frame_of a b d)))
    (λ _ e r. let z : ◌≡◌ {A = ℕ} 0 1 = cc in absurd (omega arith)))
    (λ _ e r. let z : ◌≡◌ {A = ℕ} 0 1 = cc in absurd (omega arith))
    w.answer-is w.room-is
  where
    P : Outcome → Type 0
    P o = gives n ≡ o.number → room' ≡ o.room → (length d ≤ 99) × (take n room' ≡ frame_of a b d)

pub read_back : ReadBack
read_back room a b d n room' w = let g = gave room a b d n room' w in ap read g.1 ∙ taken a b d g.0
