-- Not in the run, or in it with its value. Assumes nothing.
use borrow.Author.Tests.{le-leb, lt-leb}
use mathlib.Core.Path.{sym}
use Rattle.rules.specs.Choice.{between}
use Rattle.rules.proofs.Choose.{via}
use Rattle.table_profiles.proofs.Write.keeps_single.Goals as goal

pub returns-then-low-w : goal.returns-then-low-w
unfolding between
returns-then-low-w c = rw (via c.has.ensures c.if-not-has.false, sym c.word-w.ensures, le-leb _ _ c.if-low-w.true)

pub returns-else-low-w : goal.returns-else-low-w
unfolding between
returns-else-low-w c = rw (via c.has.ensures c.if-not-has.false, sym c.word-w.ensures, lt-leb _ _ c.if-low-w.false)
