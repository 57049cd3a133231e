-- Each way rewrites with the tests that led there. Assumes nothing.
use borrow.Author.Tests.{eq-eqb, ne_eqb}
use mathlib.Core.Path.{◌≡◌}
use native.Mathlib.Omega.{arith}
use Rattle.laser.specs.Frame.{distance_in}
use Rattle.laser.proofs.distance_in.Goals as goal

pub returns-then-first-ne48 : goal.returns-then-first-ne48
unfolding distance_in
returns-then-first-ne48 c = rw (ne_eqb _ _ c.if-first-ne48.true)

pub returns-then-second-ne68 : goal.returns-then-second-ne68
unfolding distance_in
returns-then-second-ne68 c =
    let other : c.args.second ≡ 68 → ⊥ = λ e. omega (arith, e, c.if-second-ne68.true) in
    rw (eq-eqb _ _ c.if-first-ne48.false, ne_eqb _ _ other)

pub returns-then-bytes-ne6 : goal.returns-then-bytes-ne6
unfolding distance_in
returns-then-bytes-ne6 c = rw (eq-eqb _ _ c.if-first-ne48.false, eq-eqb _ _ c.if-second-ne68.false, ne_eqb _ _ c.if-bytes-ne6.true)

pub returns : goal.returns
unfolding distance_in
returns c = rw (eq-eqb _ _ c.if-first-ne48.false, eq-eqb _ _ c.if-second-ne68.false, eq-eqb _ _ c.if-bytes-ne6.false) c.distance_at.ensures
