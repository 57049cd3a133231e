-- The invariant: whether one of the words that are left lets it pass is whether one of the five does. Assumes nothing.
use Prim.Native.Nat.{ℕ, ◌-◌}
use mathlib.Core.Bool.{Bool}
use mathlib.Core.List.{[]}
use mathlib.Core.Path.{◌≡◌}
use Rattle.rules.specs.Choice.{some}
use Rattle.table_registers.specs.declared.Profile.{Profile}
use Rattle.table_registers.specs.Table.{up_from}
use Rattle.table_registers.specs.Bits.{masked}
use Rattle.table_profiles.specs.declared.Data.TheVariants.{Same}
use Rattle.table_profiles.specs.Runs.{run_taken}
use Rattle.table_cells.proofs.mask.mask_may_pass.Given as goal

abbrev lets : Profile → ℕ → ℕ → ℕ → ℕ → Bool
lets p k a o v = run_taken p (Same (masked v a o)) k 1 []

abbrev pub invariant-loop-v : goal.invariant-loop-v
invariant-loop-v l = (some (lets l.profile l.k l.and_mask l.or_mask) (up_from l.v (5 - l.v)) ≡ some (lets l.profile l.k l.and_mask l.or_mask) (up_from 0 5))
