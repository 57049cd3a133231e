-- Each way rewrites with the test that led there. Assumes nothing.
use mathlib.Core.Bool.{Bool, true, false}
use mathlib.Core.Path.{◌≡◌, refl, ◌∙◌}
use Prim.Native.Nat.{ℕ}
use Rattle.rules.specs.Choice.{pick}
use Rattle.rules.proofs.Choose.{via}
use Rattle.text_digits.specs.Digits.{is_digit}
use Rattle.text_digits.specs.declared.Digit.TheVariants.{Is, NoDigit}
use Rattle.text_hex.specs.Hex.{hex_value}
use Rattle.text_hex.proofs.is_hex.Goals as goal

picked : (t : Bool) (v : ℕ) → t ≡ is_digit (pick t (Is v) NoDigit)
picked true v = refl
picked false v = refl

pub returns-then-is_between : goal.returns-then-is_between
unfolding hex_value
returns-then-is_between c = rw (via c.is_between.ensures c.if-is_between.true) c.if-is_between.true

pub returns-else-is_between : goal.returns-else-is_between
unfolding hex_value
returns-else-is_between c = rw (via c.is_between.ensures c.if-is_between.false) (c.is_between-else-is_between.ensures ∙ picked _ _)
