-- Small files and small trees, computed. Assumes nothing.
use Rattle.std.specs.Prelude.{◌≡◌, refl, true, false, ℕ, List, [], ◌∷◌, replicate}
use Rattle.rules.specs.Choice.{between, all_between, same_bytes, some}
use Rattle.rules.specs.Tests.{first}
use Rattle.rules.specs.Given.{Given, gives, refused}
use Rattle.text_rooms.specs.Room.{overwrite}
use Rattle.table_addresses.specs.Catalogue.{table_limit}
use Rattle.catalogue_format.specs.declared.Run.{Run}
use Rattle.catalogue_format.specs.Format.{Items, none, run, group, malformed, reads, value_of, after_of, is_field, is_name, is_run, read_items, is_whole, read_file}
use Rattle.catalogue_files.specs.Refusals.{some_pair, deeper, groups_of, own, meets, meets_inside, beyond, named, on_chain, chain, paint, painted, filled, tests}

-- a group `A` with a run of two registers from 5 on, attribute 3, and a group `B`
abbrev pub small : List ℕ
small = 3 ∷ 0 ∷ 19 ∷ 1 ∷ 0 ∷ 1 ∷ 65 ∷ 2 ∷ 0 ∷ 5 ∷ 0 ∷ 5 ∷ 0 ∷ 2 ∷ 3 ∷ 3 ∷ 0 ∷ 4 ∷ 1 ∷ 0 ∷ 1 ∷ 66 ∷ []

abbrev pub two-from-5 : Run
two-from-5 = record { first = 5; count = 2; attribute = 3 }

abbrev pub tree : Items
tree = group (65 ∷ []) (run two-from-5 (group (66 ∷ []) none none)) none

pub small-reads : read_file small ≡ reads tree
unfolding value_of after_of is_field is_name is_run read_items is_whole read_file between all_between
small-reads = refl

-- one byte more, or none
pub too_long : read_file (3 ∷ 0 ∷ 4 ∷ 1 ∷ 0 ∷ 1 ∷ 65 ∷ 0 ∷ []) ≡ malformed
unfolding value_of after_of is_field is_name is_run read_items is_whole read_file between all_between
too_long = refl

pub empty : read_file [] ≡ malformed
unfolding value_of after_of is_field is_name is_run read_items is_whole read_file between all_between
empty = refl

-- the length low byte first
pub low_first : read_file (3 ∷ 4 ∷ 0 ∷ 1 ∷ 1 ∷ 0 ∷ 65 ∷ []) ≡ malformed
unfolding value_of after_of is_field is_name is_run read_items is_whole read_file between all_between
low_first = refl

-- the run of the group around `B`, and 0 elsewhere
pub filled-B : filled (66 ∷ []) tree 8 ≡ 0 ∷ 0 ∷ 0 ∷ 0 ∷ 0 ∷ 3 ∷ 3 ∷ 0 ∷ []
unfolding groups_of own some same_bytes named on_chain chain paint painted overwrite
filled-B = refl

-- the number for what a file says
abbrev pub answer : List ℕ → ℕ → Items → Given
answer asked n t = first refused (tests table_limit (reads t) asked n) (gives 0)

-- filled; 22: address 6 is not among six bytes; 24: there is no `B `
pub numbers : (answer (66 ∷ []) 7 tree ≡ gives 0) × (answer (66 ∷ []) 6 tree ≡ refused 22) × (answer (66 ∷ 32 ∷ []) 7 tree ≡ refused 24)
unfolding tests deeper groups_of own some some_pair meets meets_inside beyond same_bytes named
numbers = (refl, refl, refl)

abbrev pub in-A : Items → Items
in-A i = group (65 ∷ []) i none

-- four levels are fine, five are not
pub levels : (deeper 4 (in-A (in-A (in-A (in-A none)))) ≡ false) × (deeper 4 (in-A (in-A (in-A (in-A (in-A none))))) ≡ true)
unfolding deeper
levels = (refl, refl)

abbrev pub from-7 : Run
from-7 = record { first = 7; count = 1; attribute = 1 }

abbrev pub from-6 : Run
from-6 = record { first = 6; count = 1; attribute = 0 }

abbrev pub pair : Run → Run → Items
pair r q = in-A (run r (run q none))

-- the second run before, in and after the group that has the first
abbrev pub nested : Run → Run → Items
nested r q = in-A (group (66 ∷ []) (run r none) (run q none))

abbrev pub sisters : Run → Run → Items
sisters r q = in-A (group (66 ∷ []) (run r none) (group (67 ∷ []) (run q none) none))

-- a run of the group inside is not filled for the outer name, and the outer's run is for the inner
pub inner :
    (filled (65 ∷ []) (nested two-from-5 from-7) 8 ≡ 0 ∷ 0 ∷ 0 ∷ 0 ∷ 0 ∷ 0 ∷ 0 ∷ 1 ∷ [])
    × (filled (66 ∷ []) (nested two-from-5 from-7) 8 ≡ 0 ∷ 0 ∷ 0 ∷ 0 ∷ 0 ∷ 3 ∷ 3 ∷ 1 ∷ [])
unfolding groups_of own some same_bytes named on_chain chain paint painted overwrite
inner = (refl, refl)

-- touching is no meeting; a run of attribute 0 is a run; sisters are on no one chain
pub meetings :
    (answer (65 ∷ []) 8 (pair two-from-5 from-7) ≡ gives 0)
    × (answer (65 ∷ []) 8 (pair two-from-5 from-6) ≡ refused 22)
    × (answer (65 ∷ []) 8 (nested two-from-5 from-6) ≡ refused 22)
    × (answer (65 ∷ []) 8 (sisters two-from-5 from-6) ≡ gives 0)
unfolding tests deeper groups_of own some some_pair meets meets_inside beyond same_bytes named
meetings = (refl, refl, refl, refl)

abbrev pub two-names : List ℕ → List ℕ → Items
two-names a b = in-A (group a (run two-from-5 none) (group b (run from-6 none) none))

-- a name twice, also at different levels; a trailing blank tells two variants apart
pub names :
    (answer (66 ∷ []) 8 (two-names (66 ∷ []) (66 ∷ [])) ≡ refused 23)
    × (answer (66 ∷ []) 8 (two-names (66 ∷ []) (65 ∷ [])) ≡ refused 23)
    × (answer (66 ∷ 32 ∷ []) 8 (two-names (66 ∷ []) (66 ∷ 32 ∷ [])) ≡ gives 0)
unfolding tests deeper groups_of own some some_pair meets meets_inside beyond same_bytes named
names = (refl, refl, refl)

pub variants :
    (filled (66 ∷ []) (two-names (66 ∷ []) (66 ∷ 32 ∷ [])) 8 ≡ 0 ∷ 0 ∷ 0 ∷ 0 ∷ 0 ∷ 3 ∷ 3 ∷ 0 ∷ [])
    × (filled (66 ∷ 32 ∷ []) (two-names (66 ∷ []) (66 ∷ 32 ∷ [])) 8 ≡ replicate 8 0)
unfolding groups_of own some same_bytes named on_chain chain paint painted overwrite
variants = (refl, refl)
