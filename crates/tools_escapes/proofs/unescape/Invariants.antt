-- Stores keep the room's length. Assumes nothing.
use Rattle.std.proofs.Common.{length, ◌≡◌}
use Rattle.tools_escapes.proofs.unescape.Given as goal

abbrev pub invariant-loop-n : goal.invariant-loop-n
invariant-loop-n l = length l.room ≡ length l.initial.room
