-- Each way rewrites with the bound that its test gives. Assumes nothing.
use native.Mathlib.Omega.{arith}
use borrow.Author.Tests.{le-leb, lt-leb}
use Rattle.rules.specs.Choice.{between}
use Rattle.mewtocol_asking.proofs.is_station.Goals as goal

pub returns-then-station-ge1 : goal.returns-then-station-ge1
unfolding between
returns-then-station-ge1 c = rw (le-leb 1 c.args.station (omega (arith, c.if-station-ge1.true)))

pub returns-else-station-ge1 : goal.returns-else-station-ge1
unfolding between
returns-else-station-ge1 c = rw (lt-leb 1 c.args.station (omega (arith, c.if-station-ge1.false)))
