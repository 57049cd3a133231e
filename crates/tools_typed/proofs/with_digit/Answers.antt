-- A law for each way. Assumes nothing.
use native.Mathlib.Omega.{arith}
use Rattle.tools_typed.proofs.Reading.{no_digit, too_much, one_more}
use Rattle.tools_typed.proofs.with_digit.Goals as goal

pub returns-then-d-base : goal.returns-then-d-base
returns-then-d-base c =
    let b = c in
    let a = b.args in
    no_digit a.hex a.most a.v a.b _ _ b.digit_value-d.ensures.value b.base.ensures.value c.if-d-base.true

pub returns-then-next-from : goal.returns-then-next-from
returns-then-next-from c =
    let m = c in
    let b = m in
    let a = b.args in
    too_much a.hex a.most a.v a.b _ _ _ b.digit_value-d.ensures.value b.base.ensures.value m.moved_up.ensures.value m.if-d-base.false (omega (arith, c.if-next-from.true, c.from.ensures))

pub returns : goal.returns
returns c =
    let m = c in
    let b = m in
    let a = b.args in
    one_more a.hex a.most a.v a.b _ _ _ b.digit_value-d.ensures.value b.base.ensures.value m.moved_up.ensures.value m.if-d-base.false (omega (arith, c.if-next-from.false, c.from.ensures))
