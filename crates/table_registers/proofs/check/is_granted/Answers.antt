-- The code is the definition. Assumes nothing.
use mathlib.Core.Path.{refl}
use Rattle.table_registers.specs.Table.{grants}
use Rattle.table_registers.proofs.check.is_granted.Goals as goal

pub returns : goal.returns
unfolding grants
returns c = refl
