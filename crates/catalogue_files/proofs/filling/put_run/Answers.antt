-- Each way goes by the test that led there. Assumes nothing.
use mathlib.Core.Path.{refl, ap₂, ◌∙◌}
use Prim.Native.Nat.{ℕ, ◌+◌, ◌≤◌, ◌<◌}
use native.Mathlib.Omega.{arith}
use lib.ListN.{length, replicate}
use borrow.Author.Tests.{le-leb, lt-leb}
use Rattle.text_rooms.specs.Room.{overwrite}
use Rattle.catalogue_files.specs.Refusals.{paint}
use Rattle.catalogue_format.proofs.Bools.{so-pick, not-pick}
use Rattle.catalogue_files.proofs.filling.put_run.Goals as goal

pub returns-then-end_of-attributes : goal.returns-then-end_of-attributes
unfolding paint
returns-then-end_of-attributes c =
    let a = c.args in
    let e = c.end_of.ensures.0 in
    let h : a.r.first + a.r.count ≤ length a.attributes.now = omega arith in
    so-pick _ _ _ _ (le-leb _ _ h) (c.put.ensures ∙ ap₂ (λ (f n : ℕ). overwrite a.attributes.now f (replicate n a.r.attribute)) c.wide.ensures.0 c.wide-then-end_of-attributes.ensures.0)

pub returns-else-end_of-attributes : goal.returns-else-end_of-attributes
unfolding paint
returns-else-end_of-attributes c =
    let a = c.args in
    let e = c.end_of.ensures.0 in
    let h : length a.attributes.now < a.r.first + a.r.count = omega arith in
    not-pick _ _ _ _ (lt-leb _ _ h) refl
