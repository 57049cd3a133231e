-- What is left after the field's length. Assumes nothing.
use mathlib.Core.Path.{ap, ◌∙◌}
use Prim.Native.Nat.{ℕ, ◌+◌}
use lib.ListN.{drop}
use Rattle.catalogue_format.specs.Format.{after_of}
use Rattle.catalogue_format.proofs.fields.after.Goals as goal

pub returns : goal.returns
unfolding after_of
returns c = c.rest.ensures ∙ ap (λ (n : ℕ). drop (3 + n) c.args.s.now) c.size_of.ensures.0
