-- The invariant: the first i characters say v. Fewer than nine are read when a digit follows, so that nothing wraps. Assumes nothing.
use mathlib.Core.Path.{◌≡◌, refl, sym}
use mathlib.Core.List.{List}
use Prim.Native.Nat.{ℕ, ◌*◌, ◌^◌, ◌≤◌, ◌<◌}
use native.Mathlib.Nat.{pow-le-pow_right, one-mul}
use native.Mathlib.Omega.{arith}
use borrow.Author.Rules.{rules}
use lib.Dec.{lit<}
use lib.ListN.{get_or}
use Rattle.rules.proofs.Choose.{via}
use Rattle.text_digits.specs.Digits.{running, decimal_value, decimal}
use Rattle.text_digits.proofs.Values.{decimal-digits}
use Rattle.text_digits.proofs.Running.{running-stops, running-next, running-below}
use Rattle.text_digits.proofs.decimal.Goals.{In-Is}
use Rattle.text_digits.proofs.decimal.Goals.{At-loop-i}
use Rattle.text_digits.proofs.decimal.Goals as goal
use Rattle.text_digits.specs.declared.Digit.TheVariants.{Is}
use Rattle.text_digits.specs.declared.Number.TheVariants.{Value}

-- what at most eight digits say
few : (i v : ℕ) (s : List ℕ) → i ≤ 8 → decimal i s ≡ Value v → v < 100000000
few i v s h e =
    let most : 10 ^ i ≤ 10 ^ 8 = pow-le-pow_right (lit< tt) h in
    let below : v < 1 * 10 ^ i = running-below decimal-digits i 0 v s e in
    omega (arith, most, one-mul (10 ^ i))

-- what is known once a digit is read
module _ (c : In-Is) where
  abbrev text : List ℕ
  text = c.args.s.now

  abbrev digit : ℕ
  digit = c.in-Is.d

  read : decimal_value (get_or text c.loop-i.i 0) ≡ Is digit
  read = via c.digit_at.ensures c.in-Is.is

  small : (c.loop-i.v < 100000000) × (digit < 10)
  small = (few c.loop-i.i _ text (omega arith) c.loop-i.invariant.1, decimal-digits.small _ _ read)

pub loop-i-init : goal.loop-i-init
unfolding running
loop-i-init c = (search rules, refl)

pub returns-in_default : goal.returns-in_default
returns-in_default c =
    let l = c in
    let a = l.args in
    sym (running-stops 10 decimal_value l.loop-i.i a.k _ a.s.now (omega arith) l.loop-i.invariant.1 (via c.digit_at.ensures c.in_default.is))

pub overflow_mul-v : goal.overflow_mul-v
overflow_mul-v c = omega (arith, small c)

pub overflow_add-v : goal.overflow_add-v
overflow_add-v c = omega (arith, small c)

pub loop-i-preserved : goal.loop-i-preserved
loop-i-preserved c = (search rules, running-next 10 decimal_value _ _ _ (text c) c.loop-i.invariant.1 (read c))
