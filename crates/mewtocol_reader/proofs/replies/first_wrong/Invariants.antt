-- The invariant: what was passed and what stands before the first wrong one from there on make the place. Assumes nothing.
use mathlib.Core.Path.{◌≡◌}
use Prim.Native.Nat.{◌+◌}
use lib.ListN.{drop}
use Rattle.rules.specs.Choice.{first_not}
use Rattle.mewtocol_reader.specs.Replies.{allowed}
use Rattle.mewtocol_reader.proofs.replies.first_wrong.Given as goal

abbrev pub invariant-loop-i : goal.invariant-loop-i
invariant-loop-i l = l.i + first_not (allowed l.contacts) (drop l.i l.part) ≡ first_not (allowed l.contacts) l.part
