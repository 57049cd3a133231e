-- The invariant: the and is at most what is needed, and where it is that, all so far grant it. Assumes nothing.
use mathlib.Core.Bool.{true}
use mathlib.Core.List.{List}
use mathlib.Core.Path.{◌≡◌}
use Prim.Native.Nat.{ℕ, ◌≤◌, ◌<◌}
use lib.ListN.{get_or}
use Rattle.table_registers.specs.Table.{grants}
use Rattle.table_registers.proofs.check.all_granted.Given as goal

-- the first i attributes grant what is needed
abbrev Front : ℕ → List ℕ → ℕ → Type 0
Front need s i = (j : ℕ) → j < i → grants need (get_or s j 0) ≡ true

abbrev pub invariant-loop-attribute : goal.invariant-loop-attribute
invariant-loop-attribute l = (l.acc ≤ l.need) × (l.acc ≡ l.need → Front l.need l.s l.attribute-index)
