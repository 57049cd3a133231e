-- The invariant: what is left to put makes of the bytes what the whole makes of them. Assumes nothing.
use Rattle.std.proofs.Common.{◌≡◌}
use Rattle.catalogue_format.specs.Shapes.{groups_in}
use Rattle.catalogue_files.specs.Refusals.{painted}
use Rattle.catalogue_files.specs.Walks.{chain_in}
use Rattle.catalogue_files.proofs.filling.put_chain.Given as goal

abbrev pub invariant-loop-v : goal.invariant-loop-v
invariant-loop-v l =
    (goal.iterator-loop-v).can_next l.v-iterator
    × (goal.iterator-loop-v).is_finite l.v-iterator
    × (painted l.attributes (chain_in l.asked (groups_in l.v-iterator.0.now)) ≡ painted l.initial.attributes (chain_in l.asked (groups_in l.s)))
