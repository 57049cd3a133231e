-- Each way goes by the tests that led there. Assumes nothing.
use mathlib.Core.Path.{◌≡◌, sym, ap, ◌∙◌}
use Prim.Native.Nat.{◌≤◌, ◌<◌}
use native.Mathlib.Omega.{arith}
use lib.Dec.{leb}
use borrow.Author.Tests.{le-leb, lt-leb, eq-eqb, ne_eqb}
use Rattle.rules.proofs.Choose.{via}
use Rattle.catalogue_format.specs.declared.Run.{Run}
use Rattle.catalogue_format.specs.Format.{is_run, run_of}
use Rattle.catalogue_format.proofs.Bools.{no_both, so-both}
use Rattle.catalogue_format.proofs.fields.is_run.Goals as goal

pub returns-then-not-is_field : goal.returns-then-not-is_field
unfolding is_run
returns-then-not-is_field c = no_both _ _ (via c.is_field.ensures c.if-not-is_field.true)

pub returns-then-size_of-ne5 : goal.returns-then-size_of-ne5
unfolding is_run
returns-then-size_of-ne5 c =
    so-both _ _ _ (via c.is_field.ensures c.if-not-is_field.false) (no_both _ _ (ne_eqb _ _ (λ e. c.if-size_of-ne5.true (c.size_of.ensures.0 ∙ e))))

pub returns-then-r-lt1 : goal.returns-then-r-lt1
unfolding is_run
returns-then-r-lt1 c =
    let e : c.run_of-r.result.count ≡ (run_of c.args.s.now).count = ap (λ (r : Run). r.count) c.run_of-r.ensures in
    let h : (run_of c.args.s.now).count < 1 = omega arith in
    so-both _ _ _ (via c.is_field.ensures c.if-not-is_field.false) (so-both _ _ _ (eq-eqb _ _ (sym c.size_of.ensures.0 ∙ c.if-size_of-ne5.false)) (no_both _ _ (lt-leb 1 (run_of c.args.s.now).count h)))

pub returns : goal.returns
unfolding is_run
returns c =
    let e : c.run_of-r.result.count ≡ (run_of c.args.s.now).count = ap (λ (r : Run). r.count) c.run_of-r.ensures in
    let h : 1 ≤ (run_of c.args.s.now).count = omega arith in
    so-both _ _ _ (via c.is_field.ensures c.if-not-is_field.false) (so-both _ _ _ (eq-eqb _ _ (sym c.size_of.ensures.0 ∙ c.if-size_of-ne5.false)) (so-both _ _ _ (le-leb 1 (run_of c.args.s.now).count h) (ap (λ (r : Run). leb r.attribute 3) c.run_of-r.ensures)))
