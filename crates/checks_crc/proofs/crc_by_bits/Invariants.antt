-- The loop's invariant: r, folded with what is left of the frame, is the whole's. Assumes nothing.
use mathlib.Core.Path.{◌≡◌}
use Prim.Native.Nat.{◌-◌, ◌≤◌}
use lib.ListN.{length, drop}
use Rattle.checks_crc.specs.Crc.{take_byte, crc_of}
use Rattle.checks_shared.specs.Fold.{fold}
use Rattle.checks_crc.proofs.crc_by_bits.Given as goal

abbrev pub invariant-loop-i : goal.invariant-loop-i
invariant-loop-i l = fold take_byte l.r (drop l.i l.frame) ≡ crc_of l.frame
