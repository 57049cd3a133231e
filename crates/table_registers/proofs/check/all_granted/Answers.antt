-- The invariant: the and is at most what is needed, and where it is that, all so far grant it. Assumes nothing.
use mathlib.Core.Bool.{true}
use mathlib.Core.List.{List}
use mathlib.Core.Logic.{⊎_elim}
use mathlib.Core.Path.{◌≡◌, ap, ◌∙◌}
use Prim.Native.Nat.{ℕ, ◌+◌, ◌≤◌, ◌<◌}
use native.Mathlib.Nat.{eq-or-lt_of_le}
use native.Mathlib.Omega.{arith}
use lib.Bits.{and_le_l}
use lib.ListN.{get_or}
use Rattle.table_registers.specs.Table.{grants}
use Rattle.table_registers.proofs.Lacking.{grants-more}
use Rattle.table_registers.proofs.check.all_granted.Goals as goal

-- the first i attributes grant what is needed
abbrev Front : ℕ → List ℕ → ℕ → Type 0
Front need s i = (j : ℕ) → j < i → grants need (get_or s j 0) ≡ true

one_more : (need : ℕ) (s : List ℕ) (i : ℕ) → Front need s i → grants need (get_or s i 0) ≡ true → Front need s (i + 1)
one_more need s i f g j h =
    let l : j ≤ i = omega arith in
    ⊎_elim (λ e. ap (λ (k : ℕ). grants need (get_or s k 0)) e ∙ g) (λ k. f j k) (eq-or-lt_of_le l)

pub loop-attribute-preserved : goal.loop-attribute-preserved
loop-attribute-preserved c =
    let at = c.loop-attribute in
    let a = c.args in (
      omega (arith, and_le_l at.acc (get_or a.s.now at.attribute-index 0)),
      λ e. let g = grants-more a.need at.acc _ at.invariant.0 e in one_more a.need a.s.now at.attribute-index (at.invariant.1 g.0) g.1,
    )
