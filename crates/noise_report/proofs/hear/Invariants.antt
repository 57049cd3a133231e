-- `noise_report::hear` meets its contract. The invariant: what stands before what is left of the piece has been heard. Assumes nothing.
use Rattle.std.proofs.Common.{List, ◌++◌, ◌≡◌, ℕ, ◌≤◌, length, Ok}
use Rattle.noise_report.specs.Heard.{Heard}
use Rattle.noise_report.proofs.hear.Given as goal

abbrev pub invariant-loop-left : goal.invariant-loop-left
invariant-loop-left l =
    (length l.room ≡ length l.initial.room) × (front : List ℕ) × (front ++ l.left ≡ l.piece)
    × (514 ≤ length l.initial.room → (s : List ℕ) → Heard s (Ok l.initial.progress) l.initial.room → Heard (s ++ front) (Ok l.progress) l.room)

abbrev pub decreases-loop-left : goal.decreases-loop-left
decreases-loop-left l = length l.left
