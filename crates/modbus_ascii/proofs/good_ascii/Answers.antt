-- Each way rewrites with the tests that led there. Assumes nothing.
use mathlib.Core.Path.{ap, ◌∙◌}
use Prim.Native.Nat.{◌+◌, ◌-◌, ◌*◌, ◌/◌, ◌≤◌, ◌<◌}
use native.Mathlib.Omega.{arith}
use borrow.Author.Tests.{le-leb, lt-leb, eq-eqb, ne_eqb}
use lib.ListN.{length}
use Rattle.rules.specs.Choice.{between}
use Rattle.text_hex.specs.Hex.{all_hex}
use Rattle.modbus_ascii.specs.Ascii.{good_ascii}
use Rattle.modbus_ascii.proofs.good_ascii.Goals as goal

pub returns-then-n-lt9 : goal.returns-then-n-lt9
unfolding good_ascii between
returns-then-n-lt9 c =
    let f = c.args.frame.now in
    let k : (length f - 3) / 2 < 3 = omega arith in
    rw (lt-leb 3 ((length f - 3) / 2) k)

pub returns-then-count-gt255 : goal.returns-then-count-gt255
unfolding good_ascii between
returns-then-count-gt255 c =
    let f = c.args.frame.now in
    let k : 3 ≤ (length f - 3) / 2 = omega arith in
    rw (le-leb 3 ((length f - 3) / 2) k, lt-leb _ _ c.if-count-gt255.true)

pub returns-then-n-count : goal.returns-then-n-count
unfolding good_ascii between
returns-then-n-count c =
    let f = c.args.frame.now in
    let k : 3 ≤ (length f - 3) / 2 = omega arith in
    rw (le-leb 3 ((length f - 3) / 2) k, le-leb _ _ c.if-count-gt255.false, ne_eqb (length f) (2 * ((length f - 3) / 2) + 3) (λ e. c.if-n-count.true (omega (arith, e))))

pub returns-then-byte_at-ne58 : goal.returns-then-byte_at-ne58
unfolding good_ascii between
returns-then-byte_at-ne58 c =
    let f = c.args.frame.now in
    let k : 3 ≤ (length f - 3) / 2 = omega arith in
    rw (le-leb 3 ((length f - 3) / 2) k, le-leb _ _ c.if-count-gt255.false, eq-eqb _ _ c.if-n-count.false, ← c.byte_at.ensures, ne_eqb _ _ c.if-byte_at-ne58.true)

pub returns-then-byte_at-ne-CR : goal.returns-then-byte_at-ne-CR
unfolding good_ascii between
returns-then-byte_at-ne-CR c =
    let f = c.args.frame.now in
    let k : 3 ≤ (length f - 3) / 2 = omega arith in
    rw (le-leb 3 ((length f - 3) / 2) k, le-leb _ _ c.if-count-gt255.false, eq-eqb _ _ c.if-n-count.false, ← c.byte_at.ensures, eq-eqb _ _ c.if-byte_at-ne58.false, ← c.byte_at-2.ensures, ne_eqb _ _ c.if-byte_at-ne-CR.true)

pub returns-then-byte_at-ne-LF : goal.returns-then-byte_at-ne-LF
unfolding good_ascii between
returns-then-byte_at-ne-LF c =
    let f = c.args.frame.now in
    let k : 3 ≤ (length f - 3) / 2 = omega arith in
    rw (le-leb 3 ((length f - 3) / 2) k, le-leb _ _ c.if-count-gt255.false, eq-eqb _ _ c.if-n-count.false, ← c.byte_at.ensures, eq-eqb _ _ c.if-byte_at-ne58.false, ← c.byte_at-2.ensures, eq-eqb _ _ c.if-byte_at-ne-CR.false, ← c.byte_at-3.ensures, ne_eqb _ _ c.if-byte_at-ne-LF.true)

pub returns : goal.returns
unfolding good_ascii between
returns c =
    let f = c.args.frame.now in
    let k : 3 ≤ (length f - 3) / 2 = omega arith in
    rw (le-leb 3 ((length f - 3) / 2) k, le-leb _ _ c.if-count-gt255.false, eq-eqb _ _ c.if-n-count.false, ← c.byte_at.ensures, eq-eqb _ _ c.if-byte_at-ne58.false, ← c.byte_at-2.ensures, eq-eqb _ _ c.if-byte_at-ne-CR.false, ← c.byte_at-3.ensures, eq-eqb _ _ c.if-byte_at-ne-LF.false, c.all_hex.ensures ∙ ap all_hex c.part_of.ensures)
