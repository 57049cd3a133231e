-- One bit of a word, written: the word's digits above and below stay, and the digit in between is the new one. So a bit reads back as it
-- was written, and the last of two writes stays. Assumes nothing.
use mathlib.Core.Path.{◌≡◌, sym, ap, ap₂, ◌∙◌}
use mathlib.Core.Bool.{Bool, true, false}
use Prim.Native.Nat.{ℕ, ◌+◌, ◌-◌, ◌*◌, ◌/◌, ◌%◌, ◌^◌, ◌<◌, min}
use native.Mathlib.Nat.{mod-lt, add-mul, one-mul, mod-eq_of_lt}
use native.Mathlib.Omega.{arith}
use lib.Bits.{bit_and, bit_or, or_lt, and_le_l, and_step, or_step, or_zero_r, and_mask, and_block, or_block}
use lib.Pow.{split, high, low, shr_lt, ones_split, pow_pos, pow-lt}
use lib.Dec.{lit<}
use Rattle.table_registers.specs.Bits.{with_bit}
use Rattle.table_registers.specs.Statements.{value_of}

-- a number made of the digits above a place, the digit there and the digits below
abbrev digits : ℕ → ℕ → ℕ → ℕ → ℕ
digits h v b r = (h * 2 + v) * 2 ^ b + r

set-lowest : (q : ℕ) → bit_or q 1 ≡ q / 2 * 2 + 1
set-lowest q = or_step q 1 ∙ ap₂ (λ (x y : ℕ). x * 2 + y) (or_zero_r (q / 2)) (omega arith)

clear-lowest : (q j : ℕ) → q / 2 < 2 ^ j → bit_and q ((2 ^ j - 1) * 2) ≡ q / 2 * 2 + 0
clear-lowest q j h =
    let e : (2 ^ j - 1) * 2 / 2 ≡ 2 ^ j - 1 = omega arith in
    let z : min (q % 2) ((2 ^ j - 1) * 2 % 2) ≡ 0 = omega arith in
    and_step q ((2 ^ j - 1) * 2)
    ∙ ap₂ (λ (x y : ℕ). x * 2 + y) (ap (bit_and (q / 2)) e ∙ and_mask (q / 2) j ∙ mod-eq_of_lt h) z

-- all bits but one
all_but : (b j : ℕ) → j + 1 + b ≡ 16 → 65535 - 2 ^ b ≡ (2 ^ j - 1) * 2 * 2 ^ b + (2 ^ b - 1)
all_but b j e =
    let p : 65535 ≡ (2 ^ (j + 1) - 1) * 2 ^ b + (2 ^ b - 1) = ap (λ (n : ℕ). 2 ^ n - 1) (sym e) ∙ ones_split (j + 1) b in
    let q : 2 ^ (j + 1) - 1 ≡ (2 ^ j - 1) * 2 + 1 = ones_split j 1 in
    let s : (2 ^ (j + 1) - 1) * 2 ^ b ≡ (2 ^ j - 1) * 2 * 2 ^ b + 2 ^ b =
    ap (λ (n : ℕ). n * 2 ^ b) q ∙ add-mul ((2 ^ j - 1) * 2) 1 (2 ^ b) ∙ ap (λ (n : ℕ). (2 ^ j - 1) * 2 * 2 ^ b + n) (one-mul (2 ^ b)) in
    let o = pow_pos b in
    omega arith

pub with_bit-digits : (w b : ℕ) (v : Bool) → w < 65536 → b < 16 → with_bit w b v ≡ digits (w / 2 ^ b / 2) (value_of v) b (w % 2 ^ b)
unfolding with_bit
with_bit-digits w b true hw hb =
    let r = mod-lt w (pow_pos b) in
    let one : 2 ^ b ≡ 1 * 2 ^ b + 0 = omega arith in
    ap₂ bit_or (sym (split w b)) one
    ∙ or_block b (w / 2 ^ b) 1 (w % 2 ^ b) 0 r (pow_pos b)
    ∙ ap₂ (λ (x y : ℕ). x * 2 ^ b + y) (set-lowest (w / 2 ^ b)) (or_zero_r (w % 2 ^ b))
with_bit-digits w b false hw hb =
    let j = 15 - b in
    let r = mod-lt w (pow_pos b) in
    let e : j + 1 + b ≡ 16 = omega arith in
    let q : w / 2 ^ b < 2 ^ (j + 1) = shr_lt (j + 1) b (rw e hw) in
    let h : w / 2 ^ b / 2 < 2 ^ j = shr_lt j 1 q in
    let p = pow_pos b in
    ap₂ bit_and (sym (split w b)) (all_but b j e)
    ∙ and_block b (w / 2 ^ b) ((2 ^ j - 1) * 2) (w % 2 ^ b) (2 ^ b - 1) r (omega arith)
    ∙ ap₂ (λ (x y : ℕ). x * 2 ^ b + y) (clear-lowest (w / 2 ^ b) j h) (and_mask (w % 2 ^ b) b ∙ mod-eq_of_lt r)

-- ---- two writes of one bit

value-small : (v : Bool) → value_of v < 2
value-small true = lit< tt
value-small false = lit< tt

pub with_bit-word : (w b : ℕ) (v : Bool) → w < 65536 → b < 16 → with_bit w b v < 65536
unfolding with_bit
with_bit-word w b true hw hb = or_lt 16 w (2 ^ b) hw (pow-lt hb)
with_bit-word w b false hw hb = omega (arith, and_le_l w (65535 - 2 ^ b))

-- what is above a place, there and below it
above : (h v b r : ℕ) → v < 2 → r < 2 ^ b → digits h v b r / 2 ^ b / 2 ≡ h
above h v b r hv hr = ap (λ (x : ℕ). x / 2) (high (h * 2 + v) b hr) ∙ omega arith

there : (h v b r : ℕ) → v < 2 → r < 2 ^ b → digits h v b r / 2 ^ b % 2 ≡ v
there h v b r hv hr = ap (λ (x : ℕ). x % 2) (high (h * 2 + v) b hr) ∙ omega arith

pub with_bit-there : (w b : ℕ) (v : Bool) → w < 65536 → b < 16 → with_bit w b v / 2 ^ b % 2 ≡ value_of v
with_bit-there w b v hw hb =
    ap (λ (x : ℕ). x / 2 ^ b % 2) (with_bit-digits w b v hw hb)
    ∙ there (w / 2 ^ b / 2) (value_of v) b (w % 2 ^ b) (value-small v) (mod-lt w (pow_pos b))

pub with_bit-twice : (w b : ℕ) (u v : Bool) → w < 65536 → b < 16 → with_bit (with_bit w b u) b v ≡ with_bit w b v
with_bit-twice w b u v hw hb =
    let r = mod-lt w (pow_pos b) in
    let e = with_bit-digits w b u hw hb in
    with_bit-digits (with_bit w b u) b v (with_bit-word w b u hw hb) hb
    ∙ ap₂ (λ (h l : ℕ). digits h (value_of v) b l)
    (ap (λ (x : ℕ). x / 2 ^ b / 2) e ∙ above (w / 2 ^ b / 2) (value_of u) b (w % 2 ^ b) (value-small u) r)
    (ap (λ (x : ℕ). x % 2 ^ b) e ∙ low (w / 2 ^ b / 2 * 2 + value_of u) b r)
    ∙ sym (with_bit-digits w b v hw hb)
