-- A digit, and the gap where it is a letter. Assumes nothing.
use mathlib.Core.Bool.{Bool, true, false}
use mathlib.Core.Path.{◌≡◌, ap, ◌∙◌}
use Prim.Native.Nat.{ℕ, ◌+◌, ◌%◌}
use native.Mathlib.Omega.{arith}
use lib.Dec.{ltb}
use Rattle.rules.specs.Choice.{pick}
use Rattle.text_hex.specs.Hex.{hex_digit}
use Rattle.text_hex.proofs.hex_digit.Goals as goal

sum : (t : Bool) (d : ℕ) → 48 + d + pick t 0 7 ≡ pick t (48 + d) (55 + d)
sum true d = omega arith
sum false d = omega arith

pub returns : goal.returns
unfolding hex_digit
returns c = let d = c.args.n % 16 in ap (λ (m : ℕ). 48 + d + m) c.gap.ensures ∙ sum (ltb d 10) d
