-- The loop's invariant: the shifts that are left, made on x, give what all eight give on the start. Assumes nothing.
use mathlib.Core.Path.{◌≡◌}
use Prim.Native.Nat.{◌-◌, ◌≤◌}
use Rattle.checks_crc.specs.Crc.{shifts}
use Rattle.checks_crc.proofs.shift_out.Given as goal

abbrev pub invariant-loop-i : goal.invariant-loop-i
invariant-loop-i l = shifts (8 - l._i) l.x ≡ shifts 8 l.k
