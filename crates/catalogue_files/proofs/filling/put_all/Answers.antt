-- First 0 everywhere, then the chain. Assumes nothing.
use mathlib.Core.Path.{ap, ◌∙◌}
use mathlib.Core.List.{List}
use Prim.Native.Nat.{ℕ}
use lib.ListN.{length, replicate, length-replicate}
use Rattle.catalogue_files.specs.Refusals.{painted}
use Rattle.catalogue_format.specs.Shapes.{groups_in}
use Rattle.catalogue_files.specs.Walks.{chain_in}
use Rattle.catalogue_files.proofs.Puts.{overwrite-whole}
use Rattle.catalogue_files.proofs.filling.put_all.Goals as goal

pub returns : goal.returns
returns c =
    let a = c.args in
    c.put_chain.ensures
    ∙ ap (λ (b : List ℕ). painted b (chain_in a.asked.now (groups_in a.s.now))) (c.put.ensures ∙ overwrite-whole a.attributes.now (replicate (length a.attributes.now) 0) (length-replicate _ _))
