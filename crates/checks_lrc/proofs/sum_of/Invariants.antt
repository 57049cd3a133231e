-- The loop's invariant: s, folded with what is left of the bytes, is the whole's. Assumes nothing.
use mathlib.Core.Path.{◌≡◌}
use Prim.Native.Nat.{◌-◌, ◌≤◌, ◌<◌}
use lib.ListN.{length, drop}
use Rattle.checks_shared.specs.Fold.{fold}
use Rattle.checks_lrc.specs.Lrc.{sum_of}
use Rattle.checks_shared.proofs.Fold.{add}
use Rattle.checks_lrc.proofs.sum_of.Given as goal

abbrev pub invariant-loop-b : goal.invariant-loop-b
invariant-loop-b l = fold add l.s (drop l.b-index l.bytes) ≡ sum_of l.bytes
