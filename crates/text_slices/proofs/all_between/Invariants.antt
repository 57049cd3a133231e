-- The invariant: what was seen and what is left make the answer for the whole. Assumes nothing.
use Rattle.std.proofs.Common.{◌≡◌, drop}
use Rattle.rules.specs.Choice.{both, all_between}
use Rattle.text_slices.proofs.all_between.Given as goal

abbrev pub invariant-loop-x : goal.invariant-loop-x
invariant-loop-x l = both l.fine (all_between l.lo l.hi (drop l.x-index l.s)) ≡ all_between l.lo l.hi l.s
