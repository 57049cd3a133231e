-- Each way rewrites with the tests that led there; the one without CR is in proofs/Shapes. Assumes nothing.
use mathlib.Core.Path.{◌≡◌, ap, ◌∙◌}
use Prim.Native.Nat.{ℕ, ◌<◌}
use native.Mathlib.Omega.{arith}
use lib.ListN.{length, take, drop, get_or}
use borrow.Author.Tests.{le-leb, lt-leb, eq-eqb, ne_eqb}
use Rattle.rules.specs.Choice.{between, all_between}
use Rattle.rules.proofs.Choose.{via}
use Rattle.mewtocol_frame.specs.Frame.{good_shape}
use Rattle.mewtocol_frame.proofs.frame.good_shape.Goals as goal

pub returns-then-n-least : goal.returns-then-n-least
unfolding good_shape between
returns-then-n-least c =
    let a = c.args in
    let short : length a.frame.now < a.least = omega arith in
    rw (lt-leb a.least (length a.frame.now) short)

pub returns-then-n-limits : goal.returns-then-n-limits
unfolding good_shape between
returns-then-n-limits c = rw (le-leb _ _ c.if-n-least.false, lt-leb _ _ c.if-n-limits.true)

pub returns-then-byte_at-limits : goal.returns-then-byte_at-limits
unfolding good_shape between
returns-then-byte_at-limits c = rw (le-leb _ _ c.if-n-least.false, le-leb _ _ c.if-n-limits.false, ne_eqb _ _ (λ e. c.if-byte_at-limits.true (c.byte_at.ensures ∙ e)))

pub returns : goal.returns
unfolding good_shape between
returns c =
    let last = c.byte_at-2.ensures ∙ ap (λ (n : ℕ). get_or c.args.frame.now n 0) c.saturating_sub.ensures in
    let cr : c.byte_at-2.result ≡ 13 = omega arith in
    rw (le-leb _ _ c.if-n-least.false, le-leb _ _ c.if-n-limits.false, eq-eqb _ _ (via c.byte_at.ensures c.if-byte_at-limits.false), eq-eqb _ _ (via last cr))
    (c.all_between.ensures ∙ ap (all_between 0x20 0x7E) (c.part_of.ensures ∙ ap (λ (n : ℕ). take n (drop 1 c.args.frame.now)) c.saturating_sub-2.ensures))
