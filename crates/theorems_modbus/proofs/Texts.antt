-- The text of bytes: its parts, and that a station takes it. Assumes nothing.
use mathlib.Core.Path.{◌≡◌, refl, ap, ap₂, ◌∙◌}
use mathlib.Core.List.{List, [], ◌∷◌, ◌++◌, append_assoc}
use mathlib.Core.Bool.{true}
use Prim.Native.Nat.{ℕ, ◌+◌, ◌-◌, ◌*◌, ◌/◌, ◌%◌, ◌≤◌, ◌<◌}
use native.Mathlib.Nat.{mod-lt}
use native.Mathlib.Omega.{arith}
use borrow.Author.Tests.{le-leb, eq-eqb}
use lib.Dec.{lit<}
use lib.ListN.{length, get_or, take, drop, length-append}
use lib.Seq.{take_at, get_or-append_seam}
use Rattle.rules.specs.Choice.{between}
use Rattle.rules.specs.Characters.{colon, CR, LF}
use Rattle.text_rooms.specs.Room.{each}
use Rattle.text_digits.specs.Digits.{is_digit}
use Rattle.text_hex.specs.Hex.{hex_value, hex_digit, all_hex}
use Rattle.text_hex.proofs.Values.{hex-digits}
use Rattle.text_hex.proofs.Back.{hex_byte-cells}
use Rattle.modbus_ascii.specs.Ascii.{hex_pairs, count_of, good_ascii, text_frame}
use Rattle.modbus_ascii.proofs.Pairs.{hex_pairs-length}

-- a digit below 16 is written as a hex character
digit-hex : (d : ℕ) → d < 16 → is_digit (hex_value (hex_digit d)) ≡ true
digit-hex d h = ap is_digit (hex-digits.back d h)

-- every byte is written in hex characters
pub hex_pairs-hex : (bs : List ℕ) → all_hex (hex_pairs bs) ≡ true
unfolding each all_hex
hex_pairs-hex [] = refl
hex_pairs-hex (b ∷ bs) =
    ap (λ (l : List ℕ). all_hex (l ++ hex_pairs bs)) (hex_byte-cells b)
    ∙ rw (digit-hex (b / 16 % 16) (mod-lt (b / 16) (lit< tt)), digit-hex (b % 16) (mod-lt b (lit< tt))) (hex_pairs-hex bs)

module _ (bs : List ℕ) (low : 3 ≤ length bs) (high : length bs ≤ 255) where
  abbrev front : List ℕ
  front = (colon ∷ []) ++ hex_pairs bs

  abbrev line : List ℕ
  line = front ++ (CR ∷ [])

  abbrev whole : List ℕ
  whole = text_frame bs

  front_length : length front ≡ 2 * length bs + 1
  front_length = omega (arith, hex_pairs-length bs)

  line-length : length line ≡ 2 * length bs + 2
  line-length = omega (arith, length-append front (CR ∷ []), front_length)

  pub whole_length : length whole ≡ 2 * length bs + 3
  whole_length = omega (arith, length-append line (LF ∷ []), line-length)

  pub counts : count_of whole ≡ length bs
  counts = omega (arith, whole_length)

  last : get_or whole (length whole - 1) 0 ≡ LF
  last =
      let e : length whole - 1 ≡ length line = omega (arith, whole_length, line-length) in
      ap (λ (k : ℕ). get_or whole k 0) e ∙ get_or-append_seam line LF [] 0

  pub split : whole ≡ front ++ (CR ∷ LF ∷ [])
  split = append_assoc front (CR ∷ []) (LF ∷ [])

  before_last : get_or whole (length whole - 2) 0 ≡ CR
  before_last =
      let e : length whole - 2 ≡ length front = omega (arith, whole_length, front_length) in
      ap₂ (λ (l : List ℕ) (k : ℕ). get_or l k 0) split e ∙ get_or-append_seam front CR (LF ∷ []) 0

  pairs : take (2 * length bs) (drop 1 whole) ≡ hex_pairs bs
  pairs = ap (λ (l : List ℕ). take (2 * length bs) (drop 1 l)) split ∙ take_at (hex_pairs bs) (CR ∷ LF ∷ []) (2 * length bs) (hex_pairs-length bs)

  -- 3 to 255 bytes make a text that a station takes
  pub text_frame-good : good_ascii whole ≡ true
  unfolding good_ascii between
  text_frame-good = rw (counts, le-leb 3 (length bs) low, le-leb (length bs) 255 high, eq-eqb _ _ whole_length, eq-eqb _ _ before_last, eq-eqb _ _ last, pairs, hex_pairs-hex bs)
