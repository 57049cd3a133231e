-- Numbers on their way out: what fits an i32 is given back as it is. Assumes nothing.
use mathlib.Core.Path.{◌≡◌, refl, sym, ap, subst, ◌∙◌}
use Prim.Native.Nat.{ℕ, zero, suc, ◌+◌, ◌<◌}
use native.Mathlib.Omega.{arith}
use lib.IntN.{ℤ, pos, negsuc, ◌-ℤ◌, +ℤ_idl, +ℤ_idr}
use mir.Syntax.{w32}
use mir.Val.{to_z, of_z, SFits}
use mir.Facts.{to_z-of_z, to_z_pos}
use Rattle.jeulgopae_codes.specs.Codes.{minus}

-- what a call gave goes out unchanged
pub out : {z y : ℤ} → SFits w32 z → z ≡ y → to_z w32 (of_z w32 z) ≡ y
out f e = to_z-of_z f ∙ e

-- from 0 down
pub negated : (k : ℕ) → k < 256 → pos 0 -ℤ to_z w32 k ≡ minus k
negated k h = ap (λ (z : ℤ). pos 0 -ℤ z) (to_z_pos w32 {n = k} (omega (arith, h))) ∙ under k
  where
    under : (k : ℕ) → pos 0 -ℤ pos k ≡ minus k
    under zero = refl
    under (suc k) = +ℤ_idl (negsuc k)

pub negated_fits : (k : ℕ) → k < 256 → SFits w32 (pos 0 -ℤ to_z w32 k)
negated_fits k h = subst (SFits w32) (sym (negated k h)) (fits k h)
  where
    fits : (k : ℕ) → k < 256 → SFits w32 (minus k)
    fits zero h = record { sfits = omega arith }
    fits (suc k) h = record { sfits = omega (arith, h) }

-- from a number below zero down
down : (n e : ℕ) → negsuc n -ℤ pos e ≡ minus (suc n + e)
down n zero = let same : suc n + 0 ≡ suc n = omega arith in +ℤ_idr (negsuc n) ∙ sym (ap minus same)
down n (suc e) = let same : suc n + suc e ≡ suc (suc (n + e)) = omega arith in sym (ap minus same)

pub below : (n e : ℕ) → e < 65536 → negsuc n -ℤ to_z w32 e ≡ minus (suc n + e)
below n e h = ap (λ (z : ℤ). negsuc n -ℤ z) (to_z_pos w32 {n = e} (omega (arith, h))) ∙ down n e

pub below-fits : (n e : ℕ) → n < 1000000 → e < 65536 → SFits w32 (negsuc n -ℤ to_z w32 e)
below-fits n e m h =
    let same : minus (suc n + e) ≡ negsuc (n + e) = let s : suc n + e ≡ suc (n + e) = omega arith in ap minus s in
    subst (SFits w32) (sym (below n e h ∙ same)) (record { sfits = omega (arith, m, h) })
