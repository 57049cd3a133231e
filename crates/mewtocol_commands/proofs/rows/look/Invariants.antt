-- The invariant: what was seen and what is left of the row and of the text make the whole. Assumes nothing.
use Prim.Native.Nat.{◌*◌, ◌≤◌}
use Rattle.mewtocol_commands.proofs.Looking.{Left}
use Rattle.mewtocol_commands.proofs.rows.look.Given as goal

abbrev pub invariant-loop-f : goal.invariant-loop-f
invariant-loop-f l = (l.at ≤ 5 * l.f-index) × Left l.fields l.text l.seen l.f-index l.at
