-- A refused file leaves the attributes: the first test that fails gives the lent bytes back. Assumes nothing.
use mathlib.Core.Bool.{true, false}
use mathlib.Core.List.{List, [], ◌∷◌}
use mathlib.Core.Path.{◌≡◌, refl, sym, ap, ◌∙◌}
use Prim.Native.Nat.{ℕ}
use native.Mathlib.Omega.{arith}
use lib.ListN.{length}
use Rattle.rules.specs.declared.Refusal.{Refusal}
use Rattle.rules.specs.Given.{refused}
use Rattle.rules.specs.Tests.{Test, ◌unless◌, first}
use Rattle.table_addresses.specs.Catalogue.{table_limit}
use Rattle.catalogue_format.specs.Format.{items_of, read_file}
use Rattle.catalogue_files.specs.Refusals.{Is, given, outcome, outcome_up_to, tests, left, done, filled}
use Rattle.catalogue_files.specs.declared.Filled.{Filled}
use Rattle.catalogue_files.specs.declared.Filled.TheVariants.{Refused}

left_by : (ts : List Test) (lent bytes : List ℕ) (k : ℕ) → refused k ≡ (first (left lent) ts (done bytes)).number → (first (left lent) ts (done bytes)).bytes ≡ lent
left_by [] lent bytes k e = let z : ◌≡◌ {A = ℕ} 1 0 = cc in absurd (omega arith)
left_by ((j unless true) ∷ ts) lent bytes k e = left_by ts lent bytes k e
left_by ((j unless false) ∷ ts) lent bytes k e = refl

pub refused_leaves : (file asked lent bytes : List ℕ) (f : Filled) (r : Refusal) → f ≡ Refused r → Is (outcome file asked lent) f bytes → bytes ≡ lent
unfolding outcome_up_to
refused_leaves file asked lent bytes f r is p =
    let says = read_file file in
    let test = tests table_limit says asked (length lent) in
    p.bytes-is ∙ left_by test lent (filled asked (items_of says) (length lent)) r.0 (sym (ap given is) ∙ p.number_is)
