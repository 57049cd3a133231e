-- Bytes as pairs of hex characters, both ways: one more at the end, and lengths. Assumes nothing.
use mathlib.Core.Bool.{true}
use mathlib.Core.Path.{◌≡◌, refl, sym, ap, subst, ◌∙◌}
use mathlib.Core.List.{List, [], ◌∷◌, ◌++◌}
use Prim.Native.Nat.{ℕ, zero, suc, ◌+◌, ◌-◌, ◌*◌, ◌≤◌, ◌<◌}
use native.Mathlib.Numerals.{add-one}
use native.Mathlib.Omega.{arith}
use borrow.Author.Tests.{eqb-true}
use lib.Dec.{eqb}
use lib.ListN.{length, take, drop, get_or, length-append}
use lib.Seq.{drop-drop, drop-append-add, get_or-take, length-take-le}
use Rattle.rules.specs.Choice.{between}
use Rattle.rules.specs.Characters.{colon, CR, LF}
use Rattle.rules.proofs.Choose.{both_left, both_right, in-range}
use Rattle.text_digits.specs.Digits.{is_digit, with_number}
use Rattle.text_digits.specs.declared.Number.{Number}
use Rattle.text_digits.specs.declared.Number.TheVariants.{Value, NoDigitAt}
use Rattle.text_digits.proofs.Back.{digits_in-length}
use Rattle.text_digits.proofs.Running.{running-below}
use Rattle.text_rooms.specs.Room.{overwrite}
use Rattle.text_rooms.proofs.Each.{each-length}
use Rattle.text_rooms.proofs.Overwrite.{overwrite-front}
use Rattle.text_hex.specs.Hex.{hex_digit, hex_byte, hex_value, hex, all_hex}
use Rattle.text_hex.proofs.Pairs.{all_hex-at}
use Rattle.text_hex.proofs.Values.{hex-digits}
use Rattle.checks_shared.specs.Line.{Bytes}
use Rattle.table_registers.specs.Operation.{Judge}
use Rattle.modbus_counters.specs.declared.Counters.{Counters}
use Rattle.modbus_line.specs.Calls.{Answers}
use Rattle.modbus_line.specs.declared.Replied.{Replied}
use Rattle.modbus_ascii.specs.Ascii.{hex_pairs, byte_or0, pair_bytes, count_of, good_ascii, text_frame}

pub hex_pairs-length : (bs : List ℕ) → length (hex_pairs bs) ≡ 2 * length bs
hex_pairs-length bs = each-length hex_byte 2 (digits_in-length 16 hex_digit 2) bs

pub pair_bytes-length : (n : ℕ) (s : List ℕ) → length (pair_bytes n s) ≡ n
unfolding pair_bytes
pair_bytes-length zero s = refl
pair_bytes-length (suc n) s = ap suc (pair_bytes-length n (drop 2 s))

byte_or0-below : (s : List ℕ) → byte_or0 s < 256
unfolding byte_or0
byte_or0-below s = go (hex 2 s) (λ n e. omega (arith, running-below hex-digits 2 0 n s e))
  where
    go : (m : Number) → ((n : ℕ) → m ≡ Value n → n < 256) → with_number m (λ b. b) 0 < 256
    go (Value n) h = h n refl
    go (NoDigitAt _) h = omega arith

pub pairs-bytes : (n : ℕ) (s : List ℕ) → Bytes (pair_bytes n s)
unfolding pair_bytes Bytes
pairs-bytes zero s = tt
pairs-bytes (suc n) s = (byte_or0-below s, pairs-bytes n (drop 2 s))

pair_bytes-suc : (n : ℕ) (s : List ℕ) → pair_bytes (suc n) s ≡ pair_bytes n s ++ (byte_or0 (drop (2 * n) s) ∷ [])
unfolding pair_bytes
pair_bytes-suc zero s = refl
pair_bytes-suc (suc n) s =
    let e : 2 + 2 * n ≡ 2 * suc n = omega arith in
    ap (λ (l : List ℕ). byte_or0 s ∷ l) (pair_bytes-suc n (drop 2 s) ∙ ap (λ (l : List ℕ). pair_bytes n (drop 2 s) ++ (byte_or0 l ∷ [])) (drop-drop (2 * n) 2 s ∙ ap (λ (k : ℕ). drop k s) e))

pub pair_bytes-more : (n : ℕ) (s : List ℕ) → pair_bytes (n + 1) s ≡ pair_bytes n s ++ (byte_or0 (drop (2 * n) s) ∷ [])
pair_bytes-more n s = rw add-one (pair_bytes-suc n s)

-- a character of pairs that are hex digits
pub pair-there : (text : List ℕ) (n j : ℕ) → 2 * n ≤ length text → all_hex (take (2 * n) text) ≡ true → j < 2 * n → is_digit (hex_value (get_or text j 0)) ≡ true
pair-there text n j l e h =
    ap (λ (x : ℕ). is_digit (hex_value x)) (sym (get_or-take (2 * n) text j 0 h))
    ∙ all_hex-at (take (2 * n) text) e j (rw (length-take-le (2 * n) text l) h)

-- a byte that two digits say
pub byte-said : (s : List ℕ) (r : ℕ) → hex 2 s ≡ Value r → r ≡ byte_or0 s
unfolding byte_or0
byte-said s r e = sym (ap (λ (n : Number). with_number n (λ (b : ℕ). b) 0) e)

-- ---- a local room

-- what was written at the start of a room is what is seen there
pub seen : (room message : List ℕ) {room' part : List ℕ} {n : ℕ} → n ≡ length message → room' ≡ overwrite room 0 message → part ≡ take n room' → part ≡ message
seen room message {room'} s p e = e ∙ ap (λ (k : ℕ). take k room') s ∙ ap (take (length message)) p ∙ overwrite-front room message

-- a longer message over a shorter one
pub overwrite-over : (room short long : List ℕ) → length short ≤ length long → overwrite (overwrite room 0 short) 0 long ≡ overwrite room 0 long
unfolding overwrite
overwrite-over room short long h =
    let k : ℕ = length long - length short in
    let more : 0 + length long ≡ length short + k = omega (arith, h) in
    let back : 0 + length short + k ≡ 0 + length long = omega (arith, h) in
    ap (λ (rest : List ℕ). long ++ rest)
    (ap (λ (n : ℕ). drop n (short ++ drop (0 + length short) room)) more ∙ drop-append-add short _ k ∙ drop-drop k (0 + length short) room ∙ ap (λ (n : ℕ). drop n room) back)

-- a text is longer than its bytes
pub text-longer : (bs : List ℕ) → length bs ≤ length (text_frame bs)
text-longer bs = simp (length-append, hex_pairs-length bs) (omega arith)

-- ---- a frame of a right shape

-- 3 to 255 bytes
pub good-count : (f : List ℕ) → good_ascii f ≡ true → (3 ≤ count_of f) × (count_of f ≤ 255)
unfolding good_ascii
good-count f e = in-range 3 255 (count_of f) (both_left _ _ e)

-- so many characters, all of them hex
pub good-pairs : (f : List ℕ) → good_ascii f ≡ true → (length f ≡ 2 * count_of f + 3) × (all_hex (take (2 * count_of f) (drop 1 f)) ≡ true)
unfolding good_ascii
good-pairs f e =
    let r1 = both_right (between 3 255 (count_of f)) _ e in
    let r2 = both_right (eqb (length f) (2 * count_of f + 3)) _ r1 in
    let r3 = both_right (eqb (get_or f 0 0) colon) _ r2 in
    let r4 = both_right (eqb (get_or f (length f - 2) 0) CR) _ r3 in
    (eqb-true (length f) _ (both_left _ _ r1), both_right (eqb (get_or f (length f - 1) 0) LF) _ r4)

-- ---- a body that is the same

pub for-body : {message : List ℕ → List ℕ} {c : Counters} {judge : Judge} {words b b' room : List ℕ} {at : ℕ} {r : Replied} {words' room' : List ℕ} → b ≡ b'
    → Answers message c judge words b room at r words' room' → Answers message c judge words b' room at r words' room'
for-body {message} {c} {judge} {words} {b} {b'} {room} {at} {r} {words'} {room'} e = subst (λ (x : List ℕ). Answers message c judge words x room at r words' room') e
