-- The entry's answer, by the tests on the way. Assumes nothing.
use mathlib.Core.Path.{◌≡◌, refl, ap, ap₂, sym, ◌∙◌}
use mathlib.Core.Bool.{true, false, not, false≢true}
use mathlib.Core.List.{List, [], ◌∷◌}
use Prim.Native.Nat.{ℕ, ◌≤◌, ◌<◌}
use lib.Dec.{leb}
use lib.ListN.{length, replicate}
use borrow.Author.Tests.{le-leb, lt-leb}
use Rattle.rules.specs.Choice.{either, same_bytes, some}
use Rattle.rules.specs.Tests.{Test, ◌unless◌, first}
use Rattle.rules.specs.Given.{gives, refused}
use Rattle.rules.proofs.Choose.{pick_yes, pick_no, via}
use Rattle.rules.proofs.Tests.{first-passed}
use Rattle.table_addresses.specs.Catalogue.{table_limit}
use Rattle.catalogue_files.specs.declared.Filled.{Filled}
use Rattle.catalogue_files.specs.declared.Filled.TheVariants.{Done, Refused}
use Rattle.catalogue_format.specs.Format.{Items, Reading, malformed, reads, is_read, items_of, read_file}
use Rattle.catalogue_files.specs.Refusals.{some_pair, deeper, unfit, names_of, named, painted, filled, tests, Outcome, left, done, settled, outcome_up_to, outcome, Is}
use Rattle.catalogue_format.specs.Shapes.{groups_in, well_formed}
use Rattle.catalogue_files.specs.Walks.{deeper_in, meets_in, beyond_in, named_in, named_twice, chain_in}
use Rattle.catalogue_format.proofs.Scanned.{well-formed}
use Rattle.catalogue_files.proofs.Said.{Says, file-said}
use Rattle.catalogue_files.proofs.Depths.{depth-said}
use Rattle.catalogue_files.proofs.Told.{named-told, twice-told, beyond-told, meets-told, chain-told}

-- ---- what a file that can be read says

items-said : (file : List ℕ) (r : Reading) → read_file file ≡ r → is_read r ≡ true → Says file (items_of r)
items-said file malformed e h = absurd (false≢true h)
items-said file (reads t) e h = file-said file t e

pub readable : (file : List ℕ) → well_formed file ≡ true → Says file (items_of (read_file file))
readable file h = items-said file (read_file file) refl (via (well-formed file) h)

-- ---- the tests from one on

abbrev pub from-24 : List ℕ → Items → List Test
from-24 asked t = (24 unless named asked t) ∷ []

abbrev pub from-23 : List ℕ → Items → List Test
from-23 asked t = (23 unless not (some_pair same_bytes (names_of t))) ∷ from-24 asked t

abbrev pub from-22 : List ℕ → ℕ → Items → List Test
from-22 asked n t = (22 unless not (unfit n t)) ∷ from-23 asked t

abbrev pub from-21 : List ℕ → ℕ → Items → List Test
from-21 asked n t = (21 unless not (deeper 4 t)) ∷ from-22 asked n t

-- ---- the answer

answers : (o p : Outcome) (r : Filled) (bytes : List ℕ) → o ≡ p → Is p r bytes → Is o r bytes
answers o p r bytes e i = record { number_is = i.number_is ∙ ap (λ (x : Outcome). x.number) (sym e); bytes-is = i.bytes-is ∙ ap (λ (x : Outcome). x.bytes) (sym e) }

refuse : (o : Outcome) (lent : List ℕ) (k : ℕ) → o ≡ left lent k → Is o (Refused (record { 0 = k })) lent
refuse o lent k e = answers o (left lent k) (Refused (record { 0 = k })) lent e (record { number_is = refl; bytes-is = refl })

module _ (file asked lent : List ℕ) where
  pub refused-1 : table_limit < length lent → Is (outcome file asked lent) (Refused (record { 0 = 1 })) lent
  unfolding outcome_up_to tests
  refused-1 h = refuse (outcome file asked lent) lent 1 (pick_no (leb (length lent) table_limit) _ _ (lt-leb _ _ h))

  module _ (fits : length lent ≤ table_limit) where
    pub refused-20 : well_formed file ≡ false → Is (outcome file asked lent) (Refused (record { 0 = 20 })) lent
    unfolding outcome_up_to tests
    refused-20 h =
        refuse (outcome file asked lent) lent 20
        (pick_yes (leb (length lent) table_limit) _ _ (le-leb _ _ fits) ∙ pick_no (is_read (read_file file)) _ _ (via (well-formed file) h))

    module _ (well : well_formed file ≡ true) where
      t : Items
      t = items_of (read_file file)

      s : Says file t
      unfolding t
      s = readable file well

      past-20 : outcome file asked lent ≡ first (left lent) (from-21 asked (length lent) t) (done (filled asked t (length lent)))
      unfolding outcome_up_to tests t
      past-20 = pick_yes (leb (length lent) table_limit) _ _ (le-leb _ _ fits) ∙ pick_yes (is_read (read_file file)) _ _ (via (well-formed file) well)

      pub refused-21 : deeper_in 4 file ≡ true → Is (outcome file asked lent) (Refused (record { 0 = 21 })) lent
      refused-21 h = refuse (outcome file asked lent) lent 21 (past-20 ∙ pick_no (not (deeper 4 t)) _ _ (ap not (via (depth-said 4 file t s) h)))

      module _ (flat : deeper_in 4 file ≡ false) where
        past-21 : outcome file asked lent ≡ first (left lent) (from-22 asked (length lent) t) (done (filled asked t (length lent)))
        past-21 = past-20 ∙ pick_yes (not (deeper 4 t)) _ _ (ap not (via (depth-said 4 file t s) flat))

        pub refused-22 : either (some meets_in (groups_in file)) (some (beyond_in (length lent)) (groups_in file)) ≡ true → Is (outcome file asked lent) (Refused (record { 0 = 22 })) lent
        refused-22 h =
            refuse (outcome file asked lent) lent 22
            (past-21 ∙ pick_no (not (unfit (length lent) t)) _ _ (ap not (via (ap₂ either (meets-told file t s) (beyond-told file t s (length lent))) h)))

        module _ (apart : either (some meets_in (groups_in file)) (some (beyond_in (length lent)) (groups_in file)) ≡ false) where
          past-22 : outcome file asked lent ≡ first (left lent) (from-23 asked t) (done (filled asked t (length lent)))
          past-22 =
              past-21 ∙ pick_yes (not (unfit (length lent) t)) _ _ (ap not (via (ap₂ either (meets-told file t s) (beyond-told file t s (length lent))) apart))

          pub refused-23 : named_twice file ≡ true → Is (outcome file asked lent) (Refused (record { 0 = 23 })) lent
          refused-23 h = refuse (outcome file asked lent) lent 23 (past-22 ∙ pick_no (not (some_pair same_bytes (names_of t))) _ _ (ap not (via (twice-told file t s) h)))

          module _ (once : named_twice file ≡ false) where
            past-23 : outcome file asked lent ≡ first (left lent) (from-24 asked t) (done (filled asked t (length lent)))
            past-23 = past-22 ∙ pick_yes (not (some_pair same_bytes (names_of t))) _ _ (ap not (via (twice-told file t s) once))

            pub refused-24 : named_in asked file ≡ false → Is (outcome file asked lent) (Refused (record { 0 = 24 })) lent
            refused-24 h = refuse (outcome file asked lent) lent 24 (past-23 ∙ pick_no (named asked t) _ _ (via (named-told file t s asked) h))

            pub taken : named_in asked file ≡ true → (bytes : List ℕ) → bytes ≡ painted (replicate (length lent) 0) (chain_in asked (groups_in file)) → Is (outcome file asked lent) Done bytes
            taken h bytes e =
                answers (outcome file asked lent) (done (filled asked t (length lent))) Done bytes
                (past-23 ∙ pick_yes (named asked t) _ _ (via (named-told file t s asked) h))
                (record { number_is = refl; bytes-is = e ∙ ap (painted (replicate (length lent) 0)) (chain-told file t s asked) })

-- ---- where the bytes are filled

numbered : (lent bytes : List ℕ) (ts : List Test) → (first (left lent) ts (done bytes)).number ≡ first refused ts (gives 0)
numbered lent bytes [] = refl
numbered lent bytes ((k unless true) ∷ ts) = numbered lent bytes ts
numbered lent bytes ((k unless false) ∷ ts) = refl

-- every test held
pub all-passed : (limit : ℕ) (r : Reading) (asked lent : List ℕ) → (settled limit r asked lent).number ≡ gives 0 → first refused (tests limit r asked (length lent)) (gives 0) ≡ gives 0
all-passed limit r asked lent e = sym (numbered lent (filled asked (items_of r) (length lent)) (tests limit r asked (length lent))) ∙ e

-- and the bytes are what is filled
pub bytes-filled : (limit : ℕ) (r : Reading) (asked lent : List ℕ) → (settled limit r asked lent).number ≡ gives 0 → (settled limit r asked lent).bytes ≡ filled asked (items_of r) (length lent)
bytes-filled limit r asked lent e = ap (λ (o : Outcome). o.bytes) (first-passed (tests limit r asked (length lent)) 0 0 (all-passed limit r asked lent e) (left lent) (done (filled asked (items_of r) (length lent))))
