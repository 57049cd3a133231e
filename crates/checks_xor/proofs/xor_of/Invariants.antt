-- The loop's invariant: r, folded with what is left of the frame, is the whole's. Assumes nothing.
use mathlib.Core.Path.{◌≡◌}
use Prim.Native.Nat.{◌-◌, ◌≤◌}
use lib.Bits.{bit_xor}
use lib.ListN.{length, drop}
use Rattle.checks_shared.specs.Fold.{fold}
use Rattle.checks_xor.specs.Xor.{xor_of}
use Rattle.checks_xor.proofs.xor_of.Given as goal

abbrev pub invariant-loop-b : goal.invariant-loop-b
invariant-loop-b l = fold bit_xor l.r (drop l.b-index l.frame) ≡ xor_of l.frame
