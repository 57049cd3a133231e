-- Each way says what the first byte is, and whether a clear was asked for. Assumes nothing.
use Prim.Native.Nat.{◌≤◌, ◌<◌}
use native.Mathlib.Omega.{arith}
use borrow.Author.Tests.{le-ltb, lt-ltb}
use Rattle.rules.proofs.Choose.{via}
use Rattle.modbus_counters.specs.Diagnosis as dg
use Rattle.modbus_counters.proofs.diagnosis.replied.Goals as goal

pub returns-then-first-ge128 : goal.returns-then-first-ge128
unfolding dg.replied
returns-then-first-ge128 c = let top : 0x80 ≤ c.args.first = omega arith in rw (le-ltb _ _ top, c.excepted.ensures)

pub returns-then-asks_clear : goal.returns-then-asks_clear
unfolding dg.replied
returns-then-asks_clear c = let low : c.args.first < 0x80 = omega arith in rw (lt-ltb _ _ low, via c.asks_clear.ensures c.if-asks_clear.true, c.cleared.ensures)

pub returns : goal.returns
unfolding dg.replied
returns c = let low : c.args.first < 0x80 = omega arith in rw (lt-ltb _ _ low, via c.asks_clear.ensures c.if-asks_clear.false)
