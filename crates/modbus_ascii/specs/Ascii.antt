-- The ASCII station (RULES B3 to B5, B15, B16): `:`, 3 to 255 bytes as upper-case hex pairs, CR, LF. Assumes nothing.
use Rattle.std.specs.Prelude.{ℕ, zero, suc, ◌+◌, ◌-◌, ◌*◌, ◌/◌, List, [], ◌∷◌, ◌++◌, Bool, true, ◌≡◌, ◌≤◌, eqb, length, get_or, take, drop}
use Rattle.rules.specs.Choice.{both, between}
use Rattle.rules.specs.Characters.{colon, CR, LF}
use Rattle.text_rooms.specs.Room.{each}
use Rattle.text_digits.specs.Digits.{with_number}
use Rattle.text_hex.specs.Hex.{hex, hex_byte, all_hex}
use Rattle.checks_lrc.specs.Lrc.{lrc_of, right_lrc}
use Rattle.station.specs.Site.{Site}
use Rattle.station.specs.Outcome.{Outcome}
use Rattle.modbus_counters.specs.declared.Counters.{Counters}
use Rattle.modbus_line.specs.Framing.{Framing}
use Rattle.modbus_line.specs.Calls.{line_station}

-- bytes as pairs of characters
abbrev pub hex_pairs : List ℕ → List ℕ
hex_pairs bytes = each hex_byte bytes

-- the byte that a pair of characters says, or 0 where it says none
unfoldable pub byte_or0 : List ℕ → ℕ
byte_or0 s = with_number (hex 2 s) (λ b. b) 0

-- the n bytes that pairs of characters say
unfoldable pub pair_bytes : ℕ → List ℕ → List ℕ
pair_bytes zero s = []
pair_bytes (suc n) s = byte_or0 s ∷ pair_bytes n (drop 2 s)

-- how many bytes a text has: two characters each, besides `:`, CR and LF
abbrev pub count_of : List ℕ → ℕ
count_of f = (length f - 3) / 2

-- `:`, 3 to 255 pairs of upper-case hex, CR, LF, and nothing else
unfoldable pub good_ascii : List ℕ → Bool
good_ascii f =
    both (between 3 255 (count_of f))
    (both (eqb (length f) (2 * count_of f + 3))
    (both (eqb (get_or f 0 0) colon)
    (both (eqb (get_or f (length f - 2) 0) CR)
    (both (eqb (get_or f (length f - 1) 0) LF)
    (all_hex (take (2 * count_of f) (drop 1 f)))))))

abbrev pub bytes_of : List ℕ → List ℕ
bytes_of f = pair_bytes (count_of f) (drop 1 f)

-- all between the station and the LRC
abbrev pub body_in : List ℕ → List ℕ
body_in bytes = take (length bytes - 2) (drop 1 bytes)

-- the station, the body, the LRC
abbrev pub with_lrc : ℕ → List ℕ → List ℕ
with_lrc own body = (own ∷ body) ++ (lrc_of (own ∷ body) ∷ [])

-- bytes as a text
abbrev pub text_frame : List ℕ → List ℕ
text_frame bytes = (colon ∷ []) ++ hex_pairs bytes ++ (CR ∷ []) ++ (LF ∷ [])

-- shape 10, LRC 11, station 12; then the body
abbrev pub ascii : Framing
ascii = record {
  shape = good_ascii;
  check = λ f. right_lrc (bytes_of f);
  to = λ f. get_or (bytes_of f) 0 0;
  body = λ f. body_in (bytes_of f);
  framed = λ own body. text_frame (with_lrc own body);
}

abbrev pub ascii_station : Counters → Site → List ℕ → List ℕ → List ℕ → Outcome
ascii_station = line_station ascii

-- a frame's shape is right, and the n bytes that it says, 3 to 255, stand at the start of a room
pub record Stands (f : List ℕ) (n : ℕ) (room : List ℕ) : Type 0 where
  pub shape : good_ascii f ≡ true
  pub count-is : n ≡ count_of f
  pub least : 3 ≤ n
  pub most : n ≤ 255
  pub bytes-are : take n room ≡ bytes_of f
