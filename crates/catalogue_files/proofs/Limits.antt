-- Engines of different limits: what one takes a larger one takes alike, and none takes a part. Assumes nothing.
use mathlib.Core.Path.{◌≡◌, refl, ap, sym, ◌∙◌}
use mathlib.Core.Bool.{Bool, true, false, not}
use mathlib.Core.List.{◌∷◌}
use Prim.Native.Nat.{◌≤◌}
use native.Mathlib.Omega.{arith}
use lib.Dec.{leb}
use lib.ListN.{length}
use borrow.Author.Tests.{leb-true, le-leb}
use Rattle.rules.specs.Choice.{either, some}
use Rattle.rules.specs.Tests.{◌unless◌}
use Rattle.rules.proofs.Choose.{pick_yes, pick_no}
use Rattle.rules.proofs.Tests.{passed}
use Rattle.catalogue_format.specs.Format.{Reading, is_read, items_of, read_file}
use Rattle.catalogue_files.specs.Refusals.{deeper, groups_of, meets_inside, beyond, unfit, tests, settled, outcome_up_to}
use Rattle.catalogue_files.specs.Statements.{SameMeaning, NeverShortened}
use Rattle.catalogue_files.proofs.Entry.{from-21, all-passed}

pub same-meaning : SameMeaning
unfolding outcome_up_to tests
same-meaning small large file asked lent h e =
    let n = length lent in
    let r = read_file file in
    let p : leb n small ≡ true = (passed 1 (leb n small) ((20 unless is_read r) ∷ from-21 asked n (items_of r)) 0 0 (all-passed small r asked lent e)).0 in
    let fits : n ≤ large = omega (arith, h, leb-true n small p) in
    pick_yes (leb n large) _ _ (le-leb n large fits) ∙ sym (pick_yes (leb n small) _ _ p)

either-right : (x y : Bool) → y ≡ true → either x y ≡ true
either-right true y e = refl
either-right false y e = e

pub never-shortened : NeverShortened
unfolding outcome_up_to tests
never-shortened limit file asked lent t fits e flat far =
    let n = length lent in
    let unfits : unfit n t ≡ true = either-right (some meets_inside (groups_of t)) (some (beyond n) (groups_of t)) far in
    ap (λ (r : Reading). settled limit r asked lent) e
    ∙ pick_yes (leb n limit) _ _ (le-leb n limit fits)
    ∙ pick_yes (not (deeper 4 t)) _ _ (ap not flat)
    ∙ pick_no (not (unfit n t)) _ _ (ap not unfits)
