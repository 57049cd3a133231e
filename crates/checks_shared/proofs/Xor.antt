-- Laws of exclusive or that lib.Bits lacks: it is associative, and a number cancels itself.
-- Assumes nothing.
use mathlib.Core.Path.{◌≡◌, refl, sym, ap, ap₂, ◌∙◌}
use Prim.Native.Nat.{ℕ, zero, suc, ◌+◌, ◌-◌, ◌*◌, ◌/◌, ◌%◌, ◌<◌}
use native.Mathlib.Omega.{arith}
use lib.Arith.{bin_ind}
use lib.Bits.{bit_xor, differ, xor_step, xor_shr, xor_zero_r, xor_self, xor_comm}

-- ---- on digits

pub differ-lt : (x y : ℕ) → x < 2 → y < 2 → differ x y < 2
differ-lt zero y h k = k
differ-lt (suc x) zero h k = h
differ-lt (suc zero) (suc zero) h k = omega arith
differ-lt (suc zero) (suc (suc y)) h k = omega arith
differ-lt (suc (suc x)) (suc y) h k = omega arith

differ-assoc : (x y z : ℕ) → x < 2 → y < 2 → z < 2 → differ (differ x y) z ≡ differ x (differ y z)
differ-assoc zero y z hx hy hz = refl
differ-assoc (suc zero) zero z hx hy hz = refl
differ-assoc (suc zero) (suc zero) zero hx hy hz = refl
differ-assoc (suc zero) (suc zero) (suc zero) hx hy hz = refl
differ-assoc (suc zero) (suc zero) (suc (suc z)) hx hy hz = omega arith
differ-assoc (suc zero) (suc (suc y)) z hx hy hz = omega arith
differ-assoc (suc (suc x)) y z hx hy hz = omega arith

pub differ_self : (x : ℕ) → differ x x ≡ 0
differ_self zero = refl
differ_self (suc x) = differ_self x

differ-one : (x : ℕ) → x < 2 → differ x 1 ≡ 1 - x
differ-one zero h = refl
differ-one (suc zero) h = refl
differ-one (suc (suc x)) h = omega arith

-- ---- the two parts of an exclusive or

pub digit_lt : (a : ℕ) → a % 2 < 2
digit_lt a = omega arith

pub xor-half : (a b : ℕ) → bit_xor a b / 2 ≡ bit_xor (a / 2) (b / 2)
xor-half a b = xor_shr a b 1

pub xor-odd : (a b : ℕ) → bit_xor a b % 2 ≡ differ (a % 2) (b % 2)
xor-odd a b = omega (arith, xor_step a b, differ-lt (a % 2) (b % 2) (digit_lt a) (digit_lt b))

-- ---- it is associative

pub xor_assoc : (a b c : ℕ) → bit_xor (bit_xor a b) c ≡ bit_xor a (bit_xor b c)
xor_assoc =
    bin_ind (λ (n : ℕ). (b c : ℕ) → bit_xor (bit_xor n b) c ≡ bit_xor n (bit_xor b c)) (λ b c. refl)
    (λ n ih b c.
    xor_step (bit_xor n b) c
    ∙ ap₂ (λ (x y : ℕ). bit_xor x (c / 2) * 2 + differ y (c % 2)) (xor-half n b) (xor-odd n b)
    ∙ ap₂ (λ (x y : ℕ). x * 2 + y) (ih (b / 2) (c / 2)) (differ-assoc (n % 2) (b % 2) (c % 2) (digit_lt n) (digit_lt b) (digit_lt c))
    ∙ sym (ap₂ (λ (x y : ℕ). bit_xor (n / 2) x * 2 + differ (n % 2) y) (xor-half b c) (xor-odd b c))
    ∙ sym (xor_step n (bit_xor b c)))

-- the middle two of four change places
pub xor-swap : (a b c d : ℕ) → bit_xor (bit_xor a b) (bit_xor c d) ≡ bit_xor (bit_xor a c) (bit_xor b d)
xor-swap a b c d =
    xor_assoc a b (bit_xor c d)
    ∙ ap (bit_xor a) (sym (xor_assoc b c d) ∙ ap (λ (x : ℕ). bit_xor x d) (xor_comm b c) ∙ xor_assoc c b d)
    ∙ sym (xor_assoc a c (bit_xor b d))

-- what is xored in twice is gone
pub xor-cancel : (a b : ℕ) → bit_xor (bit_xor a b) b ≡ a
xor-cancel a b = xor_assoc a b b ∙ ap (bit_xor a) (xor_self b) ∙ xor_zero_r a

-- with one more bit at the low end
pub xor-one : (a : ℕ) → bit_xor a 1 ≡ a / 2 * 2 + (1 - a % 2)
xor-one a =
    xor_step a 1 ∙ ap₂ (λ (x y : ℕ). x * 2 + y) (xor_zero_r (a / 2)) (differ-one (a % 2) (digit_lt a))
