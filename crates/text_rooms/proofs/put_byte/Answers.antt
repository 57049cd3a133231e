-- One store is one write. Assumes nothing.
use mathlib.Core.List.{[], ◌∷◌}
use native.Mathlib.Omega.{arith}
use Rattle.text_rooms.proofs.Overwrite.{overwrite-run}
use Rattle.text_rooms.proofs.put_byte.Goals as goal

pub returns : goal.returns
returns c = overwrite-run _ (c.args.b ∷ []) _ (omega arith)
