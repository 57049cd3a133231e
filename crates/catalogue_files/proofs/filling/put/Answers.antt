-- The part is filled, and the rest stays. Assumes nothing.
use Rattle.std.proofs.Common.{rules, arith, ◌≡◌, ◌∙◌, ◌+◌, ◌-◌, ℕ, length, replicate, ap}
use lib.ListN.{take, drop, length-drop, length-replicate}
use lib.Seq.{length-take-le}
use Rattle.catalogue_files.proofs.Puts.{part-written}
use Rattle.catalogue_files.proofs.filling.put.Goals as goal

pub returns : goal.returns
returns c =
    let a = c.args in
    let k : ℕ = a.first + a.count - a.first in
    let part = drop a.first a.attributes.now in
    let few : length (take k part) ≡ k = length-take-le k part (rw length-drop (omega (arith, c.requires))) in
    let size : k ≡ a.count = omega arith in
    part-written a.attributes.now c.fill.new.self (replicate a.count a.value) a.first k
    (c.fill.ensures.after (search rules) ∙ ap (λ (n : ℕ). replicate n a.value) (few ∙ size))
    (length-replicate _ _ ∙ omega arith)
