-- The part is as long as the field says. Assumes nothing.
use mathlib.Core.Path.{ap, ◌∙◌}
use Prim.Native.Nat.{ℕ}
use lib.ListN.{take, drop}
use Rattle.catalogue_format.specs.Format.{value_of}
use Rattle.catalogue_format.proofs.fields.value_of.Goals as goal

pub returns : goal.returns
unfolding value_of
returns c = c.part_of.ensures ∙ ap (λ (n : ℕ). take n (drop 3 c.args.s.now)) c.size_of.ensures.0
