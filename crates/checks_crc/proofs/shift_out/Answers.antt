-- The loop's invariant: the shifts that are left, made on x, give what all eight give on the start. Assumes nothing.
use mathlib.Core.Path.{◌≡◌, ap, ◌∙◌}
use Prim.Native.Nat.{ℕ, suc, ◌+◌, ◌-◌, ◌≤◌, ◌<◌}
use native.Mathlib.Omega.{arith}
use Rattle.checks_crc.specs.Crc.{shifted, shifts}
use Rattle.checks_crc.proofs.shift_out.Goals as goal

-- one shift of those that are left
left : (i x : ℕ) → i < 8 → shifts (8 - (i + 1)) (shifted x) ≡ shifts (8 - i) x
unfolding shifts
left i x h = let e : suc (8 - (i + 1)) ≡ 8 - i = omega arith in ap (λ (n : ℕ). shifts n x) e

done : (i x : ℕ) → 8 ≤ i → x ≡ shifts (8 - i) x
unfolding shifts
done i x h = let e : 0 ≡ 8 - i = omega arith in ap (λ (n : ℕ). shifts n x) e

pub loop-i-preserved : goal.loop-i-preserved
loop-i-preserved c =
    let at = c.loop-i in
    ap (shifts (8 - (at._i + 1))) c.shift_once-x.ensures ∙ left at._i at.x (omega arith) ∙ at.invariant

pub returns : goal.returns
returns c =
    let at = c.loop-i in
    done at._i at.x (omega arith) ∙ at.invariant
