-- What a file is refused for, and what is filled (RULES G4 to G8): tests over what the file says. Assumes nothing.
use Rattle.std.specs.Prelude.{ℕ, zero, suc, ◌+◌, ◌≡◌, Bool, true, false, not, List, [], ◌∷◌, ◌++◌, map, leb, ltb, length, replicate}
use Rattle.rules.specs.Choice.{pick, both, either, same_bytes, some}
use Rattle.text_rooms.specs.Room.{overwrite}
use Rattle.rules.specs.Tests.{Test, ◌unless◌, first}
use Rattle.rules.specs.Given.{Given, gives, refused, refusal}
use Rattle.table_addresses.specs.Catalogue.{table_limit}
use Rattle.catalogue_format.specs.declared.Run.{Run}
use Rattle.catalogue_format.specs.Format.{Items, none, run, group, Reading, is_read, items_of, read_file}
use Rattle.catalogue_files.specs.declared.Filled.{Filled}
use Rattle.catalogue_files.specs.declared.Filled.TheVariants.{Done, Refused}

-- one has it with a later one
unfoldable pub some_pair {ℓ} : {A : Type ℓ} → (A → A → Bool) → List A → Bool
some_pair p [] = false
some_pair p (x ∷ xs) = either (some (p x) xs) (some_pair p xs)

-- ---- 21: a group more than k levels down

unfoldable pub deeper : ℕ → Items → Bool
deeper k none = false
deeper k (run r rest) = deeper k rest
deeper zero (group n i rest) = true
deeper (suc k) (group n i rest) = either (deeper k i) (deeper (suc k) rest)

-- ---- all groups, the outer before the inner

pub record Group : Type 0 where
  pub name : List ℕ
  pub items : Items

unfoldable pub groups_of : Items → List Group
groups_of none = []
groups_of (run r rest) = groups_of rest
groups_of (group n i rest) = record { name = n; items = i } ∷ (groups_of i ++ groups_of rest)

-- the runs right in a group
unfoldable pub own : Items → List Run
own none = []
own (run r rest) = r ∷ own rest
own (group n i rest) = own rest

-- ---- 22: two runs that meet along one chain, or an address beyond the lent bytes

-- they share an address
unfoldable pub meets : Run → Run → Bool
meets r q = both (ltb r.first (q.first + q.count)) (ltb q.first (r.first + r.count))

-- two runs of the group meet, or a run of a group inside it and one of its own
unfoldable pub meets_inside : Group → Bool
meets_inside g = either (some_pair meets (own g.items)) (some (λ h. some (λ q. some (meets q) (own g.items)) (own h.items)) (groups_of g.items))

unfoldable pub beyond : ℕ → Group → Bool
beyond n g = some (λ r. ltb n (r.first + r.count)) (own g.items)

-- two runs meet along one chain, or a run has an address that is not among n
abbrev pub unfit : ℕ → Items → Bool
unfit n t = either (some meets_inside (groups_of t)) (some (beyond n) (groups_of t))

-- ---- 23, 24: names, byte for byte

abbrev pub names_of : Items → List (List ℕ)
names_of t = map (λ (g : Group). g.name) (groups_of t)

unfoldable pub named : List ℕ → Items → Bool
named asked t = some (same_bytes asked) (names_of t)

-- ---- what is filled: the runs of the group of that name and of every group around it

-- the group has the name, or a group inside it
unfoldable pub on_chain : List ℕ → Group → Bool
on_chain asked g = either (same_bytes asked g.name) (named asked g.items)

unfoldable pub chain : List ℕ → List Group → List Run
chain asked [] = []
chain asked (g ∷ gs) = pick (on_chain asked g) (own g.items) [] ++ chain asked gs

-- a run's attribute at its addresses; 22 has refused a run beyond the bytes
unfoldable pub paint : List ℕ → Run → List ℕ
paint bytes r = pick (leb (r.first + r.count) (length bytes)) (overwrite bytes r.first (replicate r.count r.attribute)) bytes

unfoldable pub painted : List ℕ → List Run → List ℕ
painted bytes [] = bytes
painted bytes (r ∷ rs) = painted (paint bytes r) rs

abbrev pub filled : List ℕ → Items → ℕ → List ℕ
filled asked t n = painted (replicate n 0) (chain asked (groups_of t))

-- ---- the answer

-- the tests in their order, for tables of so many words at most; each is over the whole file, and none of them looks at what the lent bytes hold
unfoldable pub tests : ℕ → Reading → List ℕ → ℕ → List Test
tests limit r asked n =
    (1 unless leb n limit)
    ∷ (20 unless is_read r)
    ∷ (21 unless not (deeper 4 (items_of r)))
    ∷ (22 unless not (unfit n (items_of r)))
    ∷ (23 unless not (some_pair same_bytes (names_of (items_of r))))
    ∷ (24 unless named asked (items_of r))
    ∷ []

-- what is given, and what the lent bytes are then
pub record Outcome : Type 0 where
  pub number : Given
  pub bytes : List ℕ

-- a refusal leaves the bytes
abbrev pub left : List ℕ → ℕ → Outcome
left lent k = record { number = refused k; bytes = lent }

abbrev pub done : List ℕ → Outcome
done bytes = record { number = gives 0; bytes = bytes }

abbrev pub settled : ℕ → Reading → List ℕ → List ℕ → Outcome
settled limit r asked lent = first (left lent) (tests limit r asked (length lent)) (done (filled asked (items_of r) (length lent)))

-- what a file, an asked name and lent bytes give in an engine of some limit, and in this one
unfoldable pub outcome_up_to : ℕ → List ℕ → List ℕ → List ℕ → Outcome
outcome_up_to limit file asked lent = settled limit (read_file file) asked lent

abbrev pub outcome : List ℕ → List ℕ → List ℕ → Outcome
outcome file asked lent = outcome_up_to table_limit file asked lent

abbrev pub given : Filled → Given
given Done = gives 0
given (Refused r) = refusal r

pub record Is (o : Outcome) (r : Filled) (bytes : List ℕ) : Type 0 where
  pub number_is : given r ≡ o.number
  pub bytes-is : bytes ≡ o.bytes
