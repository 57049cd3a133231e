-- The invariant: what was passed and what stands before the first wrong one from there on make the place. Assumes nothing.
use native.Mathlib.Omega.{arith}
use Rattle.rules.proofs.Choose.{via}
use Rattle.text_slices.proofs.First.{first_on, first-here, first-end}
use Rattle.mewtocol_reader.specs.Replies.{allowed}
use Rattle.mewtocol_reader.proofs.replies.first_wrong.Goals as goal

pub loop-i-preserved : goal.loop-i-preserved
loop-i-preserved c =
    let a = c.args in
    let on = first_on (allowed a.contacts) a.part.now c.loop-i.i c.loop-i-test.true (via c.allowed.ensures c.if-not-allowed.false) in
    omega (arith, on, c.loop-i.invariant)

pub returns-after-loop-i : goal.returns-after-loop-i
returns-after-loop-i c =
    let a = c.args in
    omega (arith, first-end (allowed a.contacts) a.part.now c.loop-i.i c.loop-i-test.false, c.loop-i.invariant)

pub returns-then-not-allowed : goal.returns-then-not-allowed
returns-then-not-allowed c =
    let a = c.args in
    omega (arith, first-here (allowed a.contacts) a.part.now c.loop-i.i c.loop-i-test.true (via c.allowed.ensures c.if-not-allowed.true), c.loop-i.invariant)
