-- Where a catalogue file goes wrong (RULES G10): the byte at which it is found to be malformed, or to have a fifth level. Assumes nothing.
use Rattle.std.specs.Prelude.{ℕ, zero, suc, ◌+◌, ◌-◌, Bool, true, not, List, [], ◌∷◌, leb, eqb, length, Option, None, Some}
use Rattle.rules.specs.Choice.{pick}
use Rattle.catalogue_format.specs.Format.{tag_of, size_of, value_of, after_of, is_name, is_whole, is_read, items_of, read_file}
use Rattle.catalogue_files.specs.Refusals.{deeper}
use Rattle.catalogue_format.specs.Shapes.{places_in, siblings, is_item, is_group_value}
use Rattle.catalogue_files.specs.Walks.{deeper_field}
use Rattle.catalogue_places.specs.declared.Fault.{Fault}
use Rattle.catalogue_places.specs.declared.Fault.TheVariants.{Malformed, TooDeep}

-- the first of some places that has it; nothing where none has
unfoldable pub first_that : (List ℕ → Bool) → List (List ℕ) → List ℕ
first_that p [] = []
first_that p (s ∷ ss) = pick (p s) s (first_that p ss)

-- how far into some bytes a later place of them is
abbrev pub into-by : List ℕ → List ℕ → ℕ
into-by s t = length s - length t

-- ---- 20

-- the group in front is one, if a group stands in front
abbrev pub is_fine : List ℕ → Bool
is_fine s = pick (eqb (tag_of s) 3) (is_group_value (value_of s)) true

-- what is wrong in a group's value: its name, or the first field after it that is neither a run nor a whole group
unfoldable pub wrong_field : List ℕ → List ℕ
wrong_field v = pick (is_name v) (first_that (λ s. not (is_item s)) (siblings (after_of v))) v

-- the first group that is none, the outer before the inner
unfoldable pub wrong_group : List ℕ → List ℕ
wrong_group s = first_that (λ t. not (is_fine t)) (places_in s)

-- where that field stands in the bytes that have the group in front
abbrev pub field_at : List ℕ → ℕ
field_at g = 3 + into-by (value_of g) (wrong_field (value_of g))

-- no one group that takes the whole file: its first byte, the end of either, or the first byte too many
unfoldable pub unwhole_at : List ℕ → ℕ
unwhole_at s = pick (leb (length s) 65535) (pick (eqb (tag_of s) 3) (pick (leb (3 + size_of s) (length s)) (3 + size_of s) (length s)) 0) 65535

unfoldable pub malformed_at : List ℕ → ℕ
malformed_at s = pick (is_whole s) (into-by s (wrong_group s) + field_at (wrong_group s)) (unwhole_at s)

-- ---- 21

-- the first field that has groups for more than k levels
unfoldable pub deep_field : ℕ → List ℕ → List ℕ
deep_field k s = first_that (deeper_field k) (siblings s)

-- what stands in it after its name, and how far on that is
abbrev pub deep_items : ℕ → List ℕ → List ℕ
deep_items k s = after_of (value_of (deep_field k s))

abbrev pub deep_step : ℕ → List ℕ → ℕ
deep_step k s = into-by s (deep_field k s) + (3 + into-by (value_of (deep_field k s)) (deep_items k s))

-- the first group more than k levels down
unfoldable pub deep_at : ℕ → List ℕ → ℕ
deep_at zero s = into-by s (deep_field 0 s)
deep_at (suc k) s = deep_step (suc k) s + deep_at k (deep_items (suc k) s)

-- ---- what is found, as the filling's own tests for 20 and 21 have it

unfoldable pub fault_of : List ℕ → Option Fault
fault_of s = pick (is_read (read_file s)) (pick (deeper 4 (items_of (read_file s))) (Some (TooDeep (deep_at 4 s))) None) (Some (Malformed (malformed_at s)))
