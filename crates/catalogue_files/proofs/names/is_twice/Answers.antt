-- A pair at the next group, later, or nowhere. Assumes nothing.
use Rattle.std.proofs.Common.{◌∙◌, ℕ, Bool, List, ap}
use Rattle.rules.specs.Choice.{same_bytes}
use Rattle.rules.proofs.Choose.{via}
use Rattle.catalogue_format.specs.Format.{value_of}
use Rattle.catalogue_files.specs.Walks.{named_in, named_twice}
use Rattle.catalogue_files.proofs.Turns.{pair_here, pair_later, pair_none}
use Rattle.catalogue_files.proofs.names.is_twice.Goals as goal

abbrev alike : List ℕ → List ℕ → Bool
alike u v = same_bytes (value_of u) (value_of v)

pub returns-then-is_named : goal.returns-then-is_named
unfolding named_in named_twice
returns-then-is_named c = pair_here alike _ _ _ c.in-Some.ensures.steps (via (c.is_named.ensures ∙ ap (λ (n : List ℕ). named_in n c.next.new.self.0.now) c.value_of.ensures) c.if-is_named.true) ∙ c.loop-v.invariant.2

pub loop-v-preserved : goal.loop-v-preserved
unfolding named_in named_twice
loop-v-preserved c = (tt, tt, pair_later alike _ _ _ c.in-Some.ensures.steps (via (c.is_named.ensures ∙ ap (λ (n : List ℕ). named_in n c.next.new.self.0.now) c.value_of.ensures) c.if-is_named.false) ∙ c.loop-v.invariant.2)

pub returns : goal.returns
unfolding named_twice
returns c = pair_none alike _ c.in_default.ensures.steps.0 ∙ c.loop-v.invariant.2
