-- Each way goes by the tests that led there. Assumes nothing.
use mathlib.Core.Path.{ap}
use Prim.Native.Nat.{ℕ, ◌+◌}
use lib.Dec.{eqb}
use lib.ListN.{length}
use borrow.Author.Tests.{le-leb, lt-leb}
use Rattle.rules.proofs.Choose.{via}
use Rattle.catalogue_format.specs.Format.{is_whole}
use Rattle.catalogue_format.proofs.Bools.{no_both, so-both}
use Rattle.catalogue_format.proofs.shape.is_whole.Goals as goal

pub returns-then-s-gt-FILE_LIMIT : goal.returns-then-s-gt-FILE_LIMIT
unfolding is_whole
returns-then-s-gt-FILE_LIMIT c = no_both _ _ (lt-leb (length c.args.s.now) 65535 c.if-s-gt-FILE_LIMIT.true)

pub returns-then-not-is_field : goal.returns-then-not-is_field
unfolding is_whole
returns-then-not-is_field c = so-both _ _ _ (le-leb (length c.args.s.now) 65535 c.if-s-gt-FILE_LIMIT.false) (no_both _ _ (via c.is_field.ensures c.if-not-is_field.true))

pub returns : goal.returns
unfolding is_whole
returns c =
    so-both _ _ _ (le-leb (length c.args.s.now) 65535 c.if-s-gt-FILE_LIMIT.false)
    (so-both _ _ _ (via c.is_field.ensures c.if-not-is_field.false) (ap (λ (n : ℕ). eqb (3 + n) (length c.args.s.now)) c.size_of.ensures.0))
