-- The invariant: whether one of the words that are left lets it pass is whether one of the five does. Assumes nothing.
use borrow.Author.Rules.{rules}
use Prim.Native.Nat.{ℕ, ◌<◌}
use mathlib.Core.Bool.{Bool}
use mathlib.Core.List.{[]}
use mathlib.Core.Path.{◌≡◌, sym, ap, ◌∙◌}
use Rattle.rules.specs.Choice.{some}
use Rattle.table_registers.specs.declared.Profile.{Profile}
use Rattle.table_registers.specs.Table.{up_from}
use Rattle.table_registers.specs.Bits.{masked}
use Rattle.table_profiles.specs.declared.Data.TheVariants.{Same}
use Rattle.table_profiles.specs.Runs.{run_taken}
use Rattle.table_cells.specs.Touched.{mask_may_pass}
use Rattle.table_cells.proofs.Masks.{some_next, some-found, some_end, five-enough, tried}
use Rattle.table_cells.proofs.mask.mask_may_pass.Goals as goal

abbrev lets : Profile → ℕ → ℕ → ℕ → ℕ → Bool
lets p k a o v = run_taken p (Same (masked v a o)) k 1 []

-- what one of the five says is what any says
all_told : (p : Profile) (k k' a o : ℕ) (b : Bool) → k ≡ k' → a < 65536 → some (lets p k a o) (up_from 0 5) ≡ b → b ≡ mask_may_pass p k' a o
all_told p k k' a o b e h f = sym f ∙ five-enough p k a o h ∙ ap (λ (j : ℕ). mask_may_pass p j a o) e

pub loop-v-preserved : goal.loop-v-preserved
loop-v-preserved c =
    let a = c.args in
    some_next (lets a.profile c.word-k.result a.and_mask a.or_mask) c.loop-v.v 5 c.loop-v-test.true (tried a.profile _ a.and_mask a.or_mask _ _ _ _ _ c.taken.ensures c.masked.ensures c.if-taken.false) ∙ c.loop-v.invariant

pub returns : goal.returns
returns c =
    let a = c.args in
    all_told a.profile _ _ a.and_mask a.or_mask _ c.word-k.ensures (search rules) (sym c.loop-v.invariant ∙ some_end (lets a.profile c.word-k.result a.and_mask a.or_mask) c.loop-v.v 5 c.loop-v-test.false)

pub returns-then-taken : goal.returns-then-taken
returns-then-taken c =
    let a = c.args in
    all_told a.profile _ _ a.and_mask a.or_mask _ c.word-k.ensures (search rules)
    (sym c.loop-v.invariant ∙ some-found (lets a.profile c.word-k.result a.and_mask a.or_mask) c.loop-v.v 5 c.loop-v-test.true (tried a.profile _ a.and_mask a.or_mask _ _ _ _ _ c.taken.ensures c.masked.ensures c.if-taken.true))
