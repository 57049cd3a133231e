-- The tests of the definition, at the later of the two first cells. Assumes nothing.
use Prim.Native.Nat.{ℕ}
use mathlib.Core.Bool.{Bool, true, false}
use mathlib.Core.Path.{◌≡◌, refl, sym, ap, ap₂, ◌∙◌}
use Rattle.rules.specs.Choice.{pick, both}
use Rattle.rules.proofs.Choose.{via}
use Rattle.table_profiles.specs.Runs.{in_run}
use Rattle.table_cells.specs.declared.Meeting.TheVariants.{Never, At}
use Rattle.table_cells.specs.Touched as tc
use Rattle.table_cells.proofs.meet.shared.Goals as goal

-- the choice, by any cell that is the later one
chosen : (n a m b k : ℕ) (x y : Bool) → k ≡ Prim.Native.Nat.max a b → in_run a n k ≡ x → in_run b m k ≡ y → pick (both x y) (At k) Never ≡ tc.shared n a m b
unfolding tc.shared
chosen n a m b k x y e f g =
    ap₂ (λ (s t : Bool). pick (both s t) (At k) Never) (sym f) (sym g) ∙ ap (λ (c : ℕ). pick (both (in_run a n c) (in_run b m c)) (At c) Never) e

pub returns-then-not-has_cell : goal.returns-then-not-has_cell
returns-then-not-has_cell c = chosen _ _ _ _ _ false _ c.later-c.ensures (via c.has_cell.ensures c.if-not-has_cell.true) refl

pub returns-then-not-has_cell-2 : goal.returns-then-not-has_cell-2
returns-then-not-has_cell-2 c = chosen _ _ _ _ _ true false c.later-c.ensures (via c.has_cell.ensures c.if-not-has_cell.false) (via c.has_cell-2.ensures c.if-not-has_cell-2.true)

pub returns : goal.returns
returns c = chosen _ _ _ _ _ true true c.later-c.ensures (via c.has_cell.ensures c.if-not-has_cell.false) (via c.has_cell-2.ensures c.if-not-has_cell-2.false)
