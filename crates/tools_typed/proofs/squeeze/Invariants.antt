-- Each turn leaves less of the line. Assumes nothing.
use lib.ListN.{length}
use Rattle.tools_typed.proofs.squeeze.Given as goal

abbrev pub decreases-loop-first : goal.decreases-loop-first
decreases-loop-first l = length l.left
