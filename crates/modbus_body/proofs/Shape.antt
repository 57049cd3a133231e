-- What a body whose shape is right is known to have. Assumes nothing.
use mathlib.Core.Path.{◌≡◌, refl, sym, ap, ◌∙◌}
use mathlib.Core.List.{List, [], ◌∷◌}
use mathlib.Core.Bool.{Bool, true, false, false≢true}
use Prim.Native.Nat.{ℕ, ◌+◌, ◌*◌, ◌/◌, ◌%◌, ◌≤◌, ◌<◌}
use native.Mathlib.Omega.{arith}
use borrow.Author.Tests.{eqb-true}
use lib.Dec.{eqb}
use lib.ListN.{length, get_or, drop, length-drop}
use lib.Seq.{get_or-drop}
use Rattle.rules.specs.Choice.{either, between}
use Rattle.rules.proofs.Choose.{both_left, both_right, in-range}
use Rattle.table_registers.specs.Bits.{bit_at, bits_from}
use Rattle.modbus_body.specs.Bytes.{word_at}
use Rattle.modbus_body.specs.Body.{quantity, good_read, good_write, good_coil}

pub read-limits : (limit : ℕ) (b : List ℕ) → good_read limit b ≡ true → (1 ≤ quantity b) × (quantity b ≤ limit)
unfolding good_read
read-limits limit b e = in-range 1 limit (quantity b) (both_right (eqb (length b) 5) _ e)

pub write-limits : (limit bytes : ℕ) (b : List ℕ) → good_write limit bytes b ≡ true → (1 ≤ quantity b) × (quantity b ≤ limit) × (length b ≡ 6 + bytes)
unfolding good_write
write-limits limit bytes b e =
    let r = in-range 1 limit (quantity b) (both_left _ _ e) in
    (r.0, r.1, eqb-true _ _ (both_right (eqb (get_or b 5 0) bytes) _ (both_right (between 1 limit (quantity b)) _ e)))

either_left : (a b : Bool) → either a b ≡ true → b ≡ false → a ≡ true
either_left true b e h = refl
either_left false b e h = absurd (false≢true (sym h ∙ e))

-- the first bit of FF00h and of 0000h
first_bit : (h l : ℕ) → l < 256 → (t : Bool) → either (eqb (h * 256 + l) 0) (eqb (h * 256 + l) 0xFF00) ≡ true → eqb (h * 256 + l) 0xFF00 ≡ t → eqb (h / 1 % 2) 1 ≡ t
first_bit h l s true e q = let v = eqb-true (h * 256 + l) 0xFF00 q in let z : h ≡ 255 = omega arith in rw z
first_bit h l s false e q = let v = eqb-true (h * 256 + l) 0 (either_left _ _ e q) in let z : h ≡ 0 = omega arith in rw z

pub coil-bit : (b : List ℕ) → get_or b 4 0 < 256 → good_coil b ≡ true → bits_from (drop 3 b) 0 1 ≡ eqb (quantity b) 0xFF00 ∷ []
unfolding bits_from bit_at good_coil word_at
coil-bit b s e =
    ap (λ (h : ℕ). eqb (h / 1 % 2) 1 ∷ []) (get_or-drop 3 b 0 0)
    ∙ ap (λ (t : Bool). t ∷ []) (first_bit (get_or b 3 0) (get_or b 4 0) s _ (both_right (eqb (length b) 5) _ e) refl)

-- the data of a body that is six bytes and twice a quantity long
pub bytes-halved : (b : List ℕ) → length b ≡ 6 + 2 * quantity b → length (drop 6 b) / 2 ≡ quantity b
bytes-halved b e = omega (arith, length-drop 6 b)
