-- The register of the CRC: how one shift goes on a number of 16 bits, and that shifts pass through exclusive or.
-- Assumes nothing.
use mathlib.Core.Path.{◌≡◌, refl, sym, ap, ap₂, ◌∙◌}
use mathlib.Core.Logic.{◌⊎◌, inl, inr}
use mathlib.Core.List.{List, [], ◌∷◌}
use Prim.Native.Nat.{ℕ, zero, suc, ◌+◌, ◌*◌, ◌/◌, ◌%◌, ◌^◌, ◌≤◌, ◌<◌}
use native.Mathlib.Omega.{arith}
use lib.Bits.{bit_xor, differ, xor_block, xor_lt, xor_zero_r, xor_self}
use lib.Bits as Bits
use lib.Dec.{lit<}
use lib.ListN.{length}
use native.Mathlib.Nat.{suc_inj, mul-one, zero-add, add-zero, div-add-mod'}
use Rattle.checks_crc.specs.Crc.{shifted, shifts, take_byte}
use Rattle.checks_shared.specs.Fold.{fold}
use Rattle.checks_shared.proofs.Bits.{xors}
use Rattle.checks_shared.proofs.Xor.{xor-half, xor-odd, xor-swap, xor-cancel, digit_lt}

-- ---- by the lowest bit

pub even-or-odd : (r : ℕ) → (r % 2 ≡ 0) ⊎ (r % 2 ≡ 1)
even-or-odd r = go (r % 2) (digit_lt r)
  where
    go : (d : ℕ) → d < 2 → (d ≡ 0) ⊎ (d ≡ 1)
    go zero h = inl refl
    go (suc zero) h = inr refl
    go (suc (suc d)) h = absurd (omega arith)

pub shifted_even : (r : ℕ) → r % 2 ≡ 0 → shifted r ≡ r / 2
unfolding shifted
shifted_even r e = ap (λ (d : ℕ). bit_xor (r / 2) (d * 0xA001)) e ∙ xor_zero_r (r / 2)

pub shifted-odd : (r : ℕ) → r % 2 ≡ 1 → shifted r ≡ bit_xor (r / 2) 0xA001
unfolding shifted
shifted-odd r e = ap (λ (d : ℕ). bit_xor (r / 2) (d * 0xA001)) e

-- A001h has its top bit set, so a one that leaves sets the register's top bit
pub shifted-top : (r : ℕ) → r < 65536 → r % 2 ≡ 1 → (32768 ≤ shifted r) × (shifted r < 65536)
shifted-top r h e =
    let low : r / 2 < 2 ^ 15 = omega arith in
    let l = xor_lt 15 (r / 2) 8193 low (lit< tt) in
    let b : bit_xor (r / 2) 0xA001 ≡ 32768 + bit_xor (r / 2) 8193 = ap (λ (x : ℕ). bit_xor x 0xA001) (sym (zero-add (r / 2))) ∙ xor_block 15 0 1 (r / 2) 8193 low (lit< tt) in
    omega (arith, shifted-odd r e, b, l)

pub shifted-lt : (r : ℕ) → r < 65536 → shifted r < 65536
shifted-lt r h = go (even-or-odd r)
  where
    go : (r % 2 ≡ 0) ⊎ (r % 2 ≡ 1) → shifted r < 65536
    go (inl e) = omega (arith, shifted_even r e)
    go (inr e) = (shifted-top r h e).1

pub shifts-lt : (n r : ℕ) → r < 65536 → shifts n r < 65536
unfolding shifts
shifts-lt zero r h = h
shifts-lt (suc n) r h = shifts-lt n (shifted r) (shifted-lt r h)

-- no shift empties a register
pub shifted-nonzero : (r : ℕ) → r < 65536 → shifted r ≡ 0 → r ≡ 0
shifted-nonzero r h z = go (even-or-odd r)
  where
    go : (r % 2 ≡ 0) ⊎ (r % 2 ≡ 1) → r ≡ 0
    go (inl e) = omega (arith, shifted_even r e)
    go (inr e) = omega (arith, shifted-top r h e)

-- ---- through exclusive or

times-xor : (x y : ℕ) → x < 2 → y < 2 → differ x y * 0xA001 ≡ bit_xor (x * 0xA001) (y * 0xA001)
times-xor zero y h k = refl
times-xor (suc zero) zero h k = refl
times-xor (suc zero) (suc zero) h k = refl
times-xor (suc zero) (suc (suc y)) h k = absurd (omega arith)
times-xor (suc (suc x)) y h k = absurd (omega arith)

pub shifted-xor : (a b : ℕ) → shifted (bit_xor a b) ≡ bit_xor (shifted a) (shifted b)
unfolding shifted
shifted-xor a b =
    ap₂ (λ (x y : ℕ). bit_xor x (y * 0xA001)) (xor-half a b) (xor-odd a b)
    ∙ ap (bit_xor (bit_xor (a / 2) (b / 2))) (times-xor (a % 2) (b % 2) (digit_lt a) (digit_lt b))
    ∙ xor-swap (a / 2) (b / 2) (a % 2 * 0xA001) (b % 2 * 0xA001)

pub shifts-xor : (n a b : ℕ) → shifts n (bit_xor a b) ≡ bit_xor (shifts n a) (shifts n b)
unfolding shifts
shifts-xor zero a b = refl
shifts-xor (suc n) a b = ap (shifts n) (shifted-xor a b) ∙ shifts-xor n (shifted a) (shifted b)

-- the register of the difference of two frames is the difference of their registers
pub crc-xor : (r s : ℕ) (x y : List ℕ) → length x ≡ length y → fold take_byte (bit_xor r s) (xors x y) ≡ bit_xor (fold take_byte r x) (fold take_byte s y)
unfolding fold xors
crc-xor r s [] [] l = refl
crc-xor r s [] (b ∷ y) l = absurd (omega arith)
crc-xor r s (a ∷ x) [] l = absurd (omega arith)
crc-xor r s (a ∷ x) (b ∷ y) l =
    ap (λ (t : ℕ). fold take_byte t (xors x y)) (ap (shifts 8) (xor-swap r s a b) ∙ shifts-xor 8 (bit_xor r a) (bit_xor s b))
    ∙ crc-xor (shifts 8 (bit_xor r a)) (shifts 8 (bit_xor s b)) x y (suc_inj l)

-- ---- a register takes in its own two bytes and is empty

pub shifts-up : (n h : ℕ) → shifts n (h * 2 ^ n) ≡ h
unfolding shifts
shifts-up zero h = mul-one h
shifts-up (suc n) h =
    ap (shifts n) (shifted_even (h * 2 ^ suc n) (Bits.shifted_even h n) ∙ Bits.shifted_half h n) ∙ shifts-up n h

low-out : (c : ℕ) → bit_xor c (c % 256) ≡ c / 256 * 256
low-out c =
    ap₂ bit_xor (sym (div-add-mod' c 256)) (sym (zero-add (c % 256)))
    ∙ xor_block 8 (c / 256) 0 (c % 256) (c % 256) (omega arith) (omega arith)
    ∙ ap₂ (λ (x y : ℕ). x * 256 + y) (xor_zero_r (c / 256)) (xor_self (c % 256))
    ∙ add-zero (c / 256 * 256)

-- the high byte moves down, and the low one is shifted out
pub byte-out : (x : ℕ) → shifts 8 x ≡ bit_xor (x / 256) (shifts 8 (x % 256))
byte-out x =
    ap (shifts 8) (sym (xor-cancel x (x % 256)) ∙ ap (λ (y : ℕ). bit_xor y (x % 256)) (low-out x))
    ∙ shifts-xor 8 (x / 256 * 256) (x % 256)
    ∙ ap (λ (y : ℕ). bit_xor y (shifts 8 (x % 256))) (shifts-up 8 (x / 256))

pub own-crc : (c : ℕ) → fold take_byte c ((c % 256) ∷ (c / 256) ∷ []) ≡ 0
unfolding fold shifts shifted
own-crc c =
    ap (λ (x : ℕ). shifts 8 (bit_xor x (c / 256))) (ap (shifts 8) (low-out c) ∙ shifts-up 8 (c / 256))
    ∙ ap (shifts 8) (xor_self (c / 256))
