-- The catalogue file (RULES G1 to G3): fields of a tag, a length of two bytes, high byte first, and a value; what the bytes say as
-- groups, names and runs, or that they are malformed. Assumes nothing.
use Rattle.std.specs.Prelude.{ℕ, zero, suc, ◌+◌, ◌*◌, Bool, true, false, List, [], ◌∷◌, leb, eqb, length, take, drop, get_or}
use Rattle.rules.specs.Choice.{pick, both, between, all_between}
use Rattle.catalogue_format.specs.declared.Run.{Run}

-- ---- what a file says

-- what stands in a group after its name: runs and groups, in any order; a group has a name and items of its own
pub data Items : Type 0 where
  none : Items
  run : Run → Items → Items
  group : List ℕ → Items → Items → Items

pub data Reading : Type 0 where
  malformed : Reading
  reads : Items → Reading

abbrev pub is_read : Reading → Bool
is_read malformed = false
is_read (reads t) = true

-- what was read; nothing of what is malformed
abbrev pub items_of : Reading → Items
items_of malformed = none
items_of (reads t) = t

-- ---- the first field of some bytes

abbrev pub tag_of : List ℕ → ℕ
tag_of s = get_or s 0 0

abbrev pub pair_at : List ℕ → ℕ → ℕ
pair_at s i = get_or s i 0 * 256 + get_or s (i + 1) 0

abbrev pub size_of : List ℕ → ℕ
size_of s = pair_at s 1

unfoldable pub value_of : List ℕ → List ℕ
value_of s = take (size_of s) (drop 3 s)

-- what comes after it
unfoldable pub after_of : List ℕ → List ℕ
after_of s = drop (3 + size_of s) s

-- a whole field of a tag
unfoldable pub is_field : ℕ → List ℕ → Bool
is_field tag s = both (eqb (tag_of s) tag) (leb (3 + size_of s) (length s))

-- tag 01 is a name of 1 to 32 bytes, 20h to 7Eh
unfoldable pub is_name : List ℕ → Bool
is_name s = both (is_field 1 s) (both (between 1 32 (size_of s)) (all_between 32 126 (value_of s)))

abbrev pub run_of : List ℕ → Run
run_of s = record { first = pair_at s 3; count = pair_at s 5; attribute = get_or s 7 0 }

-- tag 02 is a run: first address, count, attribute; a count of 0 or an attribute above 3 is malformed
unfoldable pub is_run : List ℕ → Bool
is_run s = both (is_field 2 s) (both (eqb (size_of s) 5) (both (leb 1 (run_of s).count) (leb (run_of s).attribute 3)))

-- tag 03 is a group
abbrev pub is_group : List ℕ → Bool
is_group s = is_field 3 s

-- ---- the reading

abbrev pub with_run : Run → Reading → Reading
with_run r (reads t) = reads (run r t)
with_run r malformed = malformed

abbrev pub with_group : List ℕ → Reading → Reading → Reading
with_group name (reads i) (reads t) = reads (group name i t)
with_group name (reads i) malformed = malformed
with_group name malformed r = malformed

-- a run, or a group with one name and then items, and what comes after it; g reads items
abbrev pub read_first : (List ℕ → Reading) → List ℕ → Reading
read_first g s =
    pick (is_run s) (with_run (run_of s) (g (after_of s)))
    (pick (both (is_group s) (is_name (value_of s))) (with_group (value_of (value_of s)) (g (after_of (value_of s))) (g (after_of s)))
    malformed)

-- runs and groups that fill the bytes exactly; n bounds how many fields there are
unfoldable pub read_items : ℕ → List ℕ → Reading
read_items zero s = reads none
read_items (suc n) [] = reads none
read_items (suc n) (x ∷ xs) = read_first (read_items n) (x ∷ xs)

-- a file is one group of at most 65,535 bytes in all
unfoldable pub is_whole : List ℕ → Bool
is_whole s = both (leb (length s) 65535) (both (is_group s) (eqb (3 + size_of s) (length s)))

unfoldable pub read_file : List ℕ → Reading
read_file s = pick (is_whole s) (read_items (length s) s) malformed
