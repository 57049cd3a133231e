-- The invariant: the digits that are left, written now, make the whole. Assumes nothing.
use mathlib.Core.Path.{◌≡◌, sym, ap, ◌∙◌}
use mathlib.Core.List.{List}
use Prim.Native.Nat.{ℕ, suc, ◌+◌, ◌-◌, ◌/◌, ◌%◌, ◌≤◌, ◌<◌}
use native.Mathlib.Omega.{arith}
use lib.ListN.{length, set, length-set}
use Rattle.text_digits.specs.Digits.{digits_in, decimal_digit, decimals}
use Rattle.text_rooms.specs.Room.{overwrite}
use Rattle.text_rooms.proofs.Overwrite.{overwrite-none, overwrite-before}
use Rattle.text_digits.proofs.Back.{digits_in-length}
use Rattle.text_decimals.proofs.put_decimal.Goals as goal

-- the last of the digits that are left is written first
turn : (out : List ℕ) (at m v : ℕ) → at + m < length out → overwrite (set out (at + m) (48 + v % 10)) at (decimals m (v / 10)) ≡ overwrite out at (decimals (suc m) v)
unfolding digits_in
turn out at m v h =
    let e : m ≡ length (decimals m (v / 10)) = sym (digits_in-length 10 decimal_digit m (v / 10)) in
    ap (λ (k : ℕ). overwrite (set out (at + k) (48 + v % 10)) at (decimals m (v / 10))) e
    ∙ overwrite-before out (decimals m (v / 10)) at (48 + v % 10) (omega (arith, e))

next : (out : List ℕ) (at k done v : ℕ) → done < k → at + k ≤ length out
    → overwrite (set out (at + (k - 1 - done)) (48 + v % 10)) at (decimals (k - (done + 1)) (v / 10)) ≡ overwrite out at (decimals (k - done) v)
next out at k done v h l =
    let m : suc (k - 1 - done) ≡ k - done = omega arith in
    let n : k - (done + 1) ≡ k - 1 - done = omega arith in
    ap (λ (j : ℕ). overwrite (set out (at + (k - 1 - done)) (48 + v % 10)) at (decimals j (v / 10))) n
    ∙ turn out at (k - 1 - done) v (omega arith)
    ∙ ap (λ (j : ℕ). overwrite out at (decimals j v)) m

pub loop-done-preserved : goal.loop-done-preserved
loop-done-preserved c =
    let l = c.loop-done in (
      simp length-set l.invariant.0,
      next l.out c.args.at c.args.k l.done l.v (omega arith) (omega arith) ∙ l.invariant.1,
    )

pub returns : goal.returns
unfolding digits_in
returns c =
    let l = c.loop-done in
    let at = c.args.at in
    let z : 0 ≡ c.args.k - l.done = omega arith in
    sym (overwrite-none l.out at) ∙ ap (λ (n : ℕ). overwrite l.out at (decimals n l.v)) z ∙ l.invariant.1
