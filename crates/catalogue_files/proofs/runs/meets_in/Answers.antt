-- Each way goes by the test that led there. Assumes nothing.
use mathlib.Core.Path.{ap, ◌∙◌}
use mathlib.Core.List.{List}
use Prim.Native.Nat.{ℕ}
use Rattle.rules.proofs.Choose.{via}
use Rattle.catalogue_files.specs.Refusals.{some_pair, meets}
use Rattle.catalogue_files.specs.Walks.{runs_in, meets_inner, meets_in}
use Rattle.catalogue_format.proofs.Bools.{so-either, or_else}
use Rattle.catalogue_files.proofs.runs.meets_in.Goals as goal

pub returns-then-meets_later : goal.returns-then-meets_later
unfolding meets_in
returns-then-meets_later c = so-either _ _ (via (c.meets_later.ensures ∙ ap (λ (t : List ℕ). some_pair meets (runs_in t)) c.after-items.ensures) c.if-meets_later.true)

pub returns : goal.returns
unfolding meets_in
returns c =
    or_else _ _ _ (via (c.meets_later.ensures ∙ ap (λ (t : List ℕ). some_pair meets (runs_in t)) c.after-items.ensures) c.if-meets_later.false) (c.meets_inner.ensures ∙ ap meets_inner c.after-items.ensures)
