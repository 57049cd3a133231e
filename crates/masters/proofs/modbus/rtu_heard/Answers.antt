-- The frame's tests, whom it is for, and its body. Assumes nothing.
use borrow.Author.Tests.{le-leb, lt-leb}
use Prim.Native.Nat.{ℕ, ◌<◌, ◌≤◌}
use mathlib.Core.Bool.{false}
use mathlib.Core.Path.{◌≡◌, ap, ◌∙◌}
use Rattle.rules.specs.Choice.{between}
use Rattle.rules.proofs.Choose.{via, is-between}
use Rattle.modbus_line.specs.Framing.{whom_at}
use Rattle.modbus_rtu.specs.Rtu.{rtu}
use Rattle.masters.proofs.Lines.{wrong-shape, right-frame}
use Rattle.masters.proofs.modbus.rtu_heard.Goals as goal

short : (n : ℕ) → n < 4 → between 4 256 n ≡ false
unfolding between
short n h = rw (lt-leb 4 n h)

long : (n : ℕ) → 4 ≤ n → 256 < n → between 4 256 n ≡ false
unfolding between
long n l h = rw (le-leb 4 n l, lt-leb n 256 h)

pub returns-then-n-lt4 : goal.returns-then-n-lt4
returns-then-n-lt4 c = let a = c.args in wrong-shape rtu a.attributes.now a.profile a.own a.frame.now _ (short _ c.if-n-lt4.true) c.nothing.ensures

pub returns-then-n-gt256 : goal.returns-then-n-gt256
returns-then-n-gt256 c = let a = c.args in wrong-shape rtu a.attributes.now a.profile a.own a.frame.now _ (long _ c.if-n-lt4.false c.if-n-gt256.true) c.nothing-then-n-gt256.ensures

pub returns : goal.returns
returns c =
    let a = c.args in
    right-frame rtu a.attributes.now a.profile a.own a.frame.now _ _ _ _ (is-between 4 256 _ c.if-n-lt4.false c.if-n-gt256.false) (via c.right_crc.ensures c.if-not-right_crc.false)
    c.body_touched-asked.ensures c.part_of.ensures (c.whom.ensures ∙ ap (λ (x : ℕ). whom_at x a.own) c.byte_at.ensures) c.for_whom.ensures
