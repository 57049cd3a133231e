-- The way back: the bytes of what a file says (RULES G1, G2 and G9). Assumes nothing.
use Rattle.std.specs.Prelude.{ℕ, ◌/◌, ◌%◌, ◌≤◌, ◌≡◌, true, List, [], ◌∷◌, ◌++◌, length}
use Rattle.rules.specs.Choice.{between, all_between}
use Rattle.catalogue_format.specs.declared.Run.{Run}
use Rattle.catalogue_format.specs.Format.{Items, none, run, group}

-- a tag, the value's length, high byte first, and the value
abbrev pub field : ℕ → List ℕ → List ℕ
field tag v = tag ∷ length v / 256 ∷ length v % 256 ∷ v

abbrev pub run_bytes : Run → List ℕ
run_bytes r = r.first / 256 ∷ r.first % 256 ∷ r.count / 256 ∷ r.count % 256 ∷ r.attribute ∷ []

unfoldable pub bytes_of : Items → List ℕ
bytes_of none = []
bytes_of (run r t) = field 2 (run_bytes r) ++ bytes_of t
bytes_of (group n i t) = field 3 (field 1 n ++ bytes_of i) ++ bytes_of t

-- what a file can say
abbrev pub Sound : Items → Type 0
Sound none = Unit {0}
Sound (run r t) = (1 ≤ r.count) × (r.attribute ≤ 3) × Sound t
Sound (group n i t) = (between 1 32 (length n) ≡ true) × (all_between 32 126 n ≡ true) × Sound i × Sound t
