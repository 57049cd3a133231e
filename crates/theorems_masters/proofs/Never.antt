-- Where no cell of the table meets, none does: no frame touches a cell past it. Assumes nothing.
use mathlib.Core.Path.{◌≡◌, refl, sym, ap, ◌∙◌}
use mathlib.Core.Bool.{Bool, true, false}
use Prim.Native.Nat.{ℕ, zero, suc, ◌+◌, ◌*◌, ◌≤◌, ◌<◌, zero-le}
use native.Mathlib.Omega.{arith}
use borrow.Author.Tests.{eqb-true, eqb-false, ltb-true, ltb-false}
use lib.Dec.{eqb, ltb}
use lib.ListN.{length}
use Rattle.rules.specs.Choice.{pick}
use Rattle.table_cells.specs.Cells.{meets_at, lowest}
use Rattle.table_cells.specs.declared.Meeting.{Meeting}
use Rattle.table_cells.specs.declared.Meeting.TheVariants.{Never, At}
use Rattle.modbus_counters.specs.Counters.{cleared}
use Rattle.masters.specs.Frames.{format_of}
use Rattle.masters.proofs.Past.{frame_past, none-meets}
use Rattle.theorems_masters.specs.Masters.{cells_of, NeverIsApart}

-- a test that holds nowhere has no lowest number, and only such a one
pick-never : (b : Bool) (k : ℕ) (m : Meeting) → pick b (At k) m ≡ Never → (b ≡ false) × (m ≡ Never)
pick-never true k m e = let z : ◌≡◌ {A = ℕ} 0 1 = cc in absurd (omega arith)
pick-never false k m e = (refl, e)

lowest-never : (p : ℕ → Bool) (k n : ℕ) → lowest p k n ≡ Never → (c : ℕ) → k ≤ c → c < k + n → p c ≡ false
unfolding lowest
lowest-never p k zero e c l h = absurd (omega arith)
lowest-never p k (suc n) e c l h =
    let q = pick-never (p k) k (lowest p (suc k) n) e in
    go (eqb k c) refl q.0 (lowest-never p (suc k) n q.1 c)
  where
    go : (b : Bool) → eqb k c ≡ b → p k ≡ false → (suc k ≤ c → c < suc k + n → p c ≡ false) → p c ≡ false
    go true r f more = ap p (sym (eqb-true k c r)) ∙ f
    go false r f more = more (omega (arith, eqb-false k c r)) (omega arith)

pub never-is-apart : NeverIsApart
never-is-apart us p one other e c = go (ltb c (16 * length us)) refl
  where
    go : (b : Bool) → ltb c (16 * length us) ≡ b → meets_at (cells_of us p one) (cells_of us p other) c ≡ false
    go true q = lowest-never (meets_at (cells_of us p one) (cells_of us p other)) 0 (16 * length us) e c zero-le (omega (arith, ltb-true c (16 * length us) q))
    go false q =
        let h = ltb-false c (16 * length us) q in
        none-meets (cells_of us p one) (cells_of us p other) c (λ way. frame_past us p (format_of one.line cleared) one.own one.frame way c h)
