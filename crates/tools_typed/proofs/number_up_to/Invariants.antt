-- What is left, going on from the value so far, says what the whole says: the invariant. Assumes nothing.
use mathlib.Core.Path.{◌≡◌}
use lib.ListN.{drop}
use Rattle.tools_typed.specs.Typed.{up_to}
use Rattle.tools_typed.proofs.number_up_to.Given as goal

abbrev pub invariant-loop-b : goal.invariant-loop-b
invariant-loop-b l = up_to l.hex l.most l.v (drop l.b-index l.text) ≡ up_to l.hex l.most 0 l.text
