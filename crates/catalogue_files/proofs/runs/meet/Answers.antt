-- Each way goes by the test that led there. Assumes nothing.
use mathlib.Core.Path.{ap₂}
use Prim.Native.Nat.{◌+◌, ◌<◌, ◌≤◌}
use native.Mathlib.Omega.{arith}
use lib.Dec.{ltb}
use borrow.Author.Tests.{lt-ltb, le-ltb}
use Rattle.catalogue_files.specs.Refusals.{meets}
use Rattle.catalogue_format.proofs.Bools.{no_both, so-both}
use Rattle.catalogue_files.proofs.runs.meet.Goals as goal

pub returns-then-wide-end_of : goal.returns-then-wide-end_of
unfolding meets
returns-then-wide-end_of c =
    let a = c.wide.ensures.0 in
    let b = c.end_of.ensures.0 in
    let g = c.args in
    let h : g.q.first + g.q.count ≤ g.r.first = omega arith in
    no_both _ _ (le-ltb _ _ h)

pub returns : goal.returns
unfolding meets
returns c =
    let a = c.wide.ensures.0 in
    let b = c.end_of.ensures.0 in
    let g = c.args in
    let h : g.r.first < g.q.first + g.q.count = omega arith in
    so-both _ _ _ (lt-ltb _ _ h) (ap₂ ltb c.wide-2.ensures.0 c.end_of-2.ensures.0)
