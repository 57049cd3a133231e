-- Each way rewrites with the tests that led there. Assumes nothing.
use mathlib.Core.Path.{◌≡◌, ap, ◌∙◌}
use Prim.Native.Nat.{◌-◌}
use native.Mathlib.Omega.{arith}
use lib.ListN.{length, take}
use Rattle.rules.proofs.Choose.{via}
use Rattle.checks_xor.specs.Xor.{right_xor}
use Rattle.laser.specs.Frame.{read}
use Rattle.laser.proofs.ReadFrames.{shape-long}
use Rattle.laser.proofs.read_frame.Goals as goal

pub returns-then-not-good_shape : goal.returns-then-not-good_shape
unfolding read
returns-then-not-good_shape c = rw (via c.good_shape.ensures c.if-not-good_shape.true)

pub overflow_sub-frame : goal.overflow_sub-frame
overflow_sub-frame c = omega (arith, shape-long _ (via c.good_shape.ensures c.if-not-good_shape.false))

pub returns-then-not-right_xor : goal.returns-then-not-right_xor
unfolding read
returns-then-not-right_xor c =
    let f = c.args.frame.now in
    let closed : c.part_of.result.now ≡ take (length f - 1) f = c.part_of.ensures in
    rw (via c.good_shape.ensures c.if-not-good_shape.false, via (c.right_xor.ensures ∙ ap right_xor closed) c.if-not-right_xor.true)

pub returns : goal.returns
unfolding read
returns c =
    rw (via c.good_shape.ensures c.if-not-good_shape.false, via (c.right_xor.ensures ∙ ap right_xor c.part_of.ensures) c.if-not-right_xor.false, c.byte_at.ensures, c.byte_at-2.ensures)
