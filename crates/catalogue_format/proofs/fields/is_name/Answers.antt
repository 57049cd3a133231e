-- Each way goes by the tests that led there. Assumes nothing.
use mathlib.Core.Path.{sym, ap, ◌∙◌}
use mathlib.Core.List.{List}
use Prim.Native.Nat.{ℕ, ◌≤◌, ◌<◌}
use native.Mathlib.Omega.{arith}
use borrow.Author.Tests.{le-leb, lt-leb}
use Rattle.rules.specs.Choice.{between, all_between}
use Rattle.rules.proofs.Choose.{via, is-between}
use Rattle.catalogue_format.specs.Format.{is_name, size_of}
use Rattle.catalogue_format.proofs.Bools.{no_both, so-both}
use Rattle.catalogue_format.proofs.fields.is_name.Goals as goal

pub returns-then-not-is_field : goal.returns-then-not-is_field
unfolding is_name
returns-then-not-is_field c = no_both _ _ (via c.is_field.ensures c.if-not-is_field.true)

pub returns-then-n-lt1 : goal.returns-then-n-lt1
unfolding is_name between
returns-then-n-lt1 c =
    let e = c.size_of-n.ensures.0 in
    let h : size_of c.args.s.now < 1 = omega arith in
    so-both _ _ _ (via c.is_field.ensures c.if-not-is_field.false) (no_both _ _ (sym (no_both _ _ (lt-leb 1 (size_of c.args.s.now) h))))

pub returns-then-n-gt32 : goal.returns-then-n-gt32
unfolding is_name between
returns-then-n-gt32 c =
    let e = c.size_of-n.ensures.0 in
    let l : 1 ≤ size_of c.args.s.now = omega arith in
    let h : 32 < size_of c.args.s.now = omega arith in
    so-both _ _ _ (via c.is_field.ensures c.if-not-is_field.false) (no_both _ _ (sym (so-both _ _ _ (le-leb 1 (size_of c.args.s.now) l) (sym (lt-leb (size_of c.args.s.now) 32 h)))))

pub returns : goal.returns
unfolding is_name
returns c =
    let e = c.size_of-n.ensures.0 in
    let l : 1 ≤ size_of c.args.s.now = omega arith in
    let h : size_of c.args.s.now ≤ 32 = omega arith in
    so-both _ _ _ (via c.is_field.ensures c.if-not-is_field.false)
    (so-both _ _ _ (is-between 1 32 (size_of c.args.s.now) l h) (c.all_between.ensures ∙ ap (λ (v : List ℕ). all_between 32 126 v) c.value_of.ensures))
