-- The same, as one walk along the bytes sees it: a step over a name or a run, a step into a group. No recursion into groups, so that no
-- file can grow the stack; proofs/ shows that it tells the same of every file. Assumes nothing.
use Rattle.std.specs.Prelude.{ℕ, zero, suc, Bool, true, List, [], ◌∷◌, eqb, length, drop}
use Rattle.rules.specs.Choice.{pick, both, either}
use Rattle.catalogue_format.specs.Format.{tag_of, value_of, after_of, is_run, is_group, is_name, is_whole}

-- the places at which a walk stops; n bounds how many there are
unfoldable pub places : (List ℕ → List ℕ) → ℕ → List ℕ → List (List ℕ)
places next zero s = []
places next (suc n) [] = []
places next (suc n) (x ∷ xs) = (x ∷ xs) ∷ places next n (next (x ∷ xs))

-- the fields of s, one after the other
unfoldable pub siblings : List ℕ → List (List ℕ)
siblings s = places after_of (length s) s

unfoldable pub into : List ℕ → List ℕ
into s = pick (eqb (tag_of s) 3) (drop 3 s) (after_of s)

-- every field, a group before what stands in it
unfoldable pub places_in : List ℕ → List (List ℕ)
places_in s = places into (length s) s

unfoldable pub every {ℓ} : {A : Type ℓ} → (A → Bool) → List A → Bool
every p [] = true
every p (x ∷ xs) = both (p x) (every p xs)

unfoldable pub values_of : List (List ℕ) → List (List ℕ)
values_of [] = []
values_of (p ∷ ps) = pick (eqb (tag_of p) 3) (value_of p ∷ values_of ps) (values_of ps)

-- the values of all groups, the outer before the inner
unfoldable pub groups_in : List ℕ → List (List ℕ)
groups_in s = values_of (places_in s)

unfoldable pub is_item : List ℕ → Bool
is_item s = either (is_run s) (is_group s)

-- runs and groups that fill s exactly, whatever stands in the groups
unfoldable pub filled_exactly : List ℕ → Bool
filled_exactly s = every is_item (siblings s)

-- a group's value: one name, and then runs and groups
unfoldable pub is_group_value : List ℕ → Bool
is_group_value v = both (is_name v) (filled_exactly (after_of v))

-- every group is one
unfoldable pub all_groups : List ℕ → Bool
all_groups s = every is_group_value (groups_in s)

-- a file is one group, and every group in it is one
unfoldable pub well_formed : List ℕ → Bool
well_formed s = both (is_whole s) (all_groups s)
