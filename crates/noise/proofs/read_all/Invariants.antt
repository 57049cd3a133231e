-- `noise::read_all` meets its contract. The invariant: the lent places keep their size, and what came so far has been heard. Assumes nothing.
use mathlib.Core.List.{List}
use mathlib.Core.Path.{◌≡◌}
use Prim.Native.Nat.{ℕ, ◌≤◌}
use lib.ListN.{length}
use Rattle.noise_report.specs.Heard.{Heard}
use Rattle.noise.proofs.read_all.Given as goal

abbrev pub invariant-loop : goal.invariant-loop
invariant-loop g l = (length l.room ≡ length l.initial.room) × (length l.piece ≡ length l.initial.piece) × (514 ≤ length l.initial.room → (s : List ℕ) × Heard s l.reader l.room)
