-- What holds of the reading and the filling (RULES G8, G9, G11); proved in proofs/Written, Unique, Small and ByAddress. Assumes nothing.
use Rattle.std.specs.Prelude.{ℕ, ◌+◌, ◌≤◌, ◌<◌, ◌≡◌, Bool, true, false, List, [], ◌∷◌, ◌++◌, leb, ltb, length, get_or}
use Rattle.rules.specs.Choice.{pick, both, all_between, some}
use Rattle.rules.specs.Given.{gives}
use Rattle.catalogue_format.specs.declared.Run.{Run}
use Rattle.catalogue_format.specs.Format.{Items, none, group, reads, read_file}
use Rattle.catalogue_files.specs.Refusals.{some_pair, deeper, groups_of, meets, beyond, chain, outcome_up_to, outcome, left}
use Rattle.catalogue_files.specs.Writing.{bytes_of, Sound}

-- reading the bytes of a group gives that group
abbrev pub ReadsBack : Type 0
ReadsBack = (n : List ℕ) (i : Items) → length (bytes_of (group n i none)) ≤ 65535 → Sound (group n i none) → read_file (bytes_of (group n i none)) ≡ reads (group n i none)

-- and only its bytes say it: no two files of bytes are read as the same
abbrev pub ReadsOnly : Type 0
ReadsOnly = (file : List ℕ) (t : Items) → all_between 0 255 file ≡ true → read_file file ≡ reads t → bytes_of t ≡ file

-- what is read can be said: counts from 1 on, attributes up to 3, names of 1 to 32 bytes
abbrev pub ReadsSound : Type 0
ReadsSound = (file : List ℕ) (t : Items) → read_file file ≡ reads t → Sound t

-- where the bytes are filled, each is at most 3: a station takes them
abbrev pub FilledSmall : Type 0
FilledSmall = (file asked lent : List ℕ) → (outcome file asked lent).number ≡ gives 0 → all_between 0 3 (outcome file asked lent).bytes ≡ true

-- a run has an address
unfoldable pub has : ℕ → Run → Bool
has k r = both (leb r.first k) (ltb k (r.first + r.count))

-- the attribute of the run that has an address, or another number
unfoldable pub attribute_at : ℕ → List Run → ℕ → ℕ
attribute_at k [] d = d
attribute_at k (r ∷ rs) d = pick (has k r) r.attribute (attribute_at k rs d)

-- where the bytes are filled, no two runs of the chain meet, so their order does not matter, and each byte is the attribute of the run of
-- the chain that has its address, or 0
pub record ByAddress (file asked lent : List ℕ) (t : Items) : Type 0 where
  pub apart : some_pair meets (chain asked (groups_of t)) ≡ false
  pub each : (k : ℕ) → k < length lent → get_or (outcome file asked lent).bytes k 0 ≡ attribute_at k (chain asked (groups_of t)) 0

abbrev pub FilledByAddress : Type 0
FilledByAddress = (file asked lent : List ℕ) (t : Items) → read_file file ≡ reads t → (outcome file asked lent).number ≡ gives 0 → ByAddress file asked lent t

-- so any order of a chain's runs says the same of each address: two that stand next to each other and don't meet may change places
abbrev pub AnyOrder : Type 0
AnyOrder = (k : ℕ) (before : List Run) (r q : Run) (after : List Run) (d : ℕ) → meets r q ≡ false
    → attribute_at k (before ++ (r ∷ q ∷ after)) d ≡ attribute_at k (before ++ (q ∷ r ∷ after)) d

-- ---- engines of different limits

-- a file that one takes means the same to every engine of a larger limit, for the same lent bytes
abbrev pub SameMeaning : Type 0
SameMeaning = (small large : ℕ) (file asked lent : List ℕ) → small ≤ large → (outcome_up_to small file asked lent).number ≡ gives 0
    → outcome_up_to large file asked lent ≡ outcome_up_to small file asked lent

-- and a file with an address beyond the lent bytes, in any group, is 22 to an engine of whatever limit, and the bytes are left: never a part of its table
abbrev pub NeverShortened : Type 0
NeverShortened = (limit : ℕ) (file asked lent : List ℕ) (t : Items) → length lent ≤ limit → read_file file ≡ reads t → deeper 4 t ≡ false
    → some (beyond (length lent)) (groups_of t) ≡ true → outcome_up_to limit file asked lent ≡ left lent 22
