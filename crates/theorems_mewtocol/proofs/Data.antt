-- The data of a reply: its characters, its length, and what it says at each place. Assumes nothing.
use mathlib.Core.Path.{◌≡◌, refl, sym, ap, ◌∙◌}
use mathlib.Core.List.{List, [], ◌∷◌, ◌++◌, append_assoc, map}
use mathlib.Core.Bool.{true}
use Prim.Native.Nat.{ℕ, zero, suc, ◌+◌, ◌-◌, ◌*◌, ◌/◌, ◌%◌, ◌≤◌, ◌<◌}
use native.Mathlib.Omega.{arith}
use borrow.Author.Tests.{le-leb}
use lib.ListN.{length, take, drop, get_or, length-take, length-drop}
use lib.Seq.{drop_at, drop-drop, get_or-drop, get_or-take}
use Rattle.rules.specs.Choice.{between, all_between}
use Rattle.text_rooms.specs.Room.{each}
use Rattle.text_digits.specs.declared.Number.TheVariants.{Value}
use Rattle.text_hex.specs.Hex.{all_hex, hex_byte}
use Rattle.text_hex.proofs.Values.{hex-digits}
use Rattle.text_hex.proofs.Back.{hex_byte-cells}
use Rattle.text_hex_words.specs.Words.{low_first, low_first_word}
use Rattle.text_hex_words.proofs.Back.{low_first-length, low-first-back}
use Rattle.table_addresses.specs.Areas.{contact_cell}
use Rattle.table_registers.specs.Bits.{cell_at}
use Rattle.mewtocol_frame.specs.Text.{bit, words_text}
use Rattle.mewtocol_station.specs.Replies.{contacts_text}

-- ---- words

hex-pair : (b : ℕ) (t : List ℕ) → all_hex t ≡ true → all_hex (hex_byte b ++ t) ≡ true
unfolding all_hex
hex-pair b t h =
    ap (λ (m : List ℕ). all_hex (m ++ t)) (hex_byte-cells b)
    ∙ rw (hex-digits.back (b / 16 % 16) (omega arith), hex-digits.back (b % 16) (omega arith)) h

pub words-hex : (ws : List ℕ) → all_hex (words_text ws) ≡ true
unfolding each low_first all_hex
words-hex [] = refl
words-hex (w ∷ ws) =
    ap all_hex (append_assoc (hex_byte (w % 256)) (hex_byte (w / 256)) (words_text ws))
    ∙ hex-pair (w % 256) _ (hex-pair (w / 256) _ (words-hex ws))

-- word i of the text is word i of the list
pub words-say : (ws : List ℕ) (i : ℕ) → i < length ws → get_or ws i 0 < 65536 → low_first_word (drop (4 * i) (words_text ws)) ≡ Value (get_or ws i 0)
unfolding each
words-say [] i h k = absurd (omega arith)
words-say (w ∷ ws) zero h k = low-first-back w (words_text ws) k
words-say (w ∷ ws) (suc i) h k =
    let e : 4 * suc i ≡ 4 + 4 * i = omega arith in
    let on : drop (4 * suc i) (low_first w ++ words_text ws) ≡ drop (4 * i) (words_text ws) =
    ap (λ (n : ℕ). drop n (low_first w ++ words_text ws)) e ∙ sym (drop-drop (4 * i) 4 (low_first w ++ words_text ws)) ∙ ap (drop (4 * i)) (drop_at (low_first w) (words_text ws) 4 (low_first-length w)) in
    ap low_first_word on ∙ words-say ws i (omega arith) k

-- a run of words by its place
pub run_at : (words : List ℕ) (k n i : ℕ) → i < n → get_or (take n (drop k words)) i 0 ≡ get_or words (k + i) 0
run_at words k n i h = get_or-take n (drop k words) i 0 h ∙ get_or-drop k words i 0

pub run_length : (words : List ℕ) (k n : ℕ) → k + n ≤ length words → length (take n (drop k words)) ≡ n
run_length words k n h = rw (length-take, length-drop) (omega arith)

-- ---- contacts

pub contacts-data : (words cells : List ℕ) → all_between 48 49 (contacts_text (map (cell_at words) cells)) ≡ true
unfolding all_between between
contacts-data words [] = refl
contacts-data words (c ∷ cs) = rw (le-leb 48 (48 + cell_at words c) (omega arith), le-leb (48 + cell_at words c) 49 (omega arith)) (contacts-data words cs)

bit-says : (v : ℕ) → v < 2 → bit (48 + v) ≡ Value v
unfolding bit between
bit-says v h =
    let e : 48 + v - 48 ≡ v = omega arith in
    rw (le-leb 48 (48 + v) (omega arith), le-leb (48 + v) 49 (omega arith), e)

pub contacts-say : (words cs : List ℕ) (i : ℕ) → i < length cs
    → bit (get_or (drop i (contacts_text (map (cell_at words) (map contact_cell cs)))) 0 0) ≡ Value (cell_at words (contact_cell (get_or cs i 0)))
contacts-say words [] i h = absurd (omega arith)
contacts-say words (c ∷ cs) zero h = bit-says (cell_at words (contact_cell c)) (omega arith)
contacts-say words (c ∷ cs) (suc i) h = contacts-say words cs i (omega arith)
