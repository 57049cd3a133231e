-- Each way goes by the test that led there. Assumes nothing.
use mathlib.Core.Path.{ap, ◌∙◌}
use Rattle.rules.specs.Choice.{same_bytes}
use Rattle.rules.proofs.Choose.{via}
use Rattle.catalogue_files.specs.Walks.{named_in, on_chain_in}
use Rattle.catalogue_format.proofs.Bools.{so-either, or_else}
use Rattle.catalogue_files.proofs.filling.is_on_chain.Goals as goal

pub returns-then-same : goal.returns-then-same
unfolding on_chain_in
returns-then-same c = so-either _ _ (via (c.same.ensures ∙ ap (same_bytes c.args.asked.now) c.value_of-name.ensures) c.if-same.true)

pub returns : goal.returns
unfolding on_chain_in
returns c =
    or_else _ _ _ (via (c.same.ensures ∙ ap (same_bytes c.args.asked.now) c.value_of-name.ensures) c.if-same.false) (c.is_named.ensures ∙ ap (named_in c.args.asked.now) c.after-items.ensures)
