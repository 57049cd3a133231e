-- Laws of one digit: how large it can be, that its character says it, and that two characters never say the same. Assumes nothing.
use mathlib.Core.Path.{◌≡◌, refl}
use Prim.Native.Nat.{ℕ, ◌+◌, ◌-◌, ◌≤◌, ◌<◌}
use native.Mathlib.Omega.{arith}
use borrow.Author.Tests.{le-leb}
use Rattle.rules.specs.Choice.{pick, between}
use Rattle.text_digits.specs.Digits.{decimal_value, decimal_digit}
use Rattle.text_digits.specs.declared.Digit.{Digit}
use Rattle.text_digits.specs.declared.Digit.TheVariants.{Is, NoDigit}
use Rattle.rules.proofs.Choose.{pick_all, in-range, is-between, below-range, above-range}

-- what a law of numbers in a base asks of its digits
pub record Digits (base : ℕ) (value : ℕ → Digit) (character : ℕ → ℕ) : Type 0 where
  pub small : (x v : ℕ) → value x ≡ Is v → v < base
  pub back : (d : ℕ) → d < base → value (character d) ≡ Is d
  pub only : (x v : ℕ) → value x ≡ Is v → x ≡ character v
  pub none : value 0 ≡ NoDigit

-- a range of characters whose values begin at v₀
pub ranged : (lo hi v₀ x v : ℕ) (rest : Digit) (P : Type 0) → (lo ≤ x → x ≤ hi → x - v₀ ≡ v → P) → (rest ≡ Is v → P) → pick (between lo hi x) (Is (x - v₀)) rest ≡ Is v → P
ranged lo hi v₀ x v rest P f g =
    pick_all (λ n. n ≡ Is v → P) (between lo hi x) (Is (x - v₀)) rest
    (λ t e. let r = in-range lo hi x t in let w : x - v₀ ≡ v = cc in f r.0 r.1 w)
    (λ _. g)

pub none : (v : ℕ) (P : Type 0) → NoDigit ≡ Is v → P
none v P e = let z : ◌≡◌ {A = ℕ} 0 1 = cc in absurd (omega arith)

pub decimal-digits : Digits 10 decimal_value decimal_digit
unfolding decimal_value between
decimal-digits = record {
  small = λ x v. ranged 48 57 48 x v NoDigit (v < 10) (λ l h e. omega arith) (none v (v < 10));
  back = λ d h. let e : 48 + d - 48 ≡ d = omega arith in rw (le-leb 48 (48 + d) (omega arith), le-leb (48 + d) 57 (omega arith), e);
  only = λ x v. ranged 48 57 48 x v NoDigit (x ≡ 48 + v) (λ l h e. omega arith) (none v (x ≡ 48 + v));
  none = refl;
}

-- ---- a character, by the range that it is in

pub decimal_inside : (x : ℕ) → 48 ≤ x → x ≤ 57 → decimal_value x ≡ Is (x - 48)
unfolding decimal_value
decimal_inside x l h = rw (is-between 48 57 x l h) refl

pub decimal_below : (x : ℕ) → x < 48 → decimal_value x ≡ NoDigit
unfolding decimal_value
decimal_below x h = rw (below-range 48 57 x h) refl

pub decimal_above : (x : ℕ) → 57 < x → decimal_value x ≡ NoDigit
unfolding decimal_value
decimal_above x h = rw (above-range 48 57 x h) refl
