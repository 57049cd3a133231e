-- What a request may touch, as code holds it, and the first cell at which two such meet. Assumes nothing.
use Rattle.std.specs.Prelude.{ℕ, ◌<◌, max, min, Bool, true, false, List, [], ◌∷◌, ◌≡◌, length, take}
use Rattle.rules.specs.Choice.{pick, both, either, some}
use Rattle.table_addresses.specs.declared.Area.{Area}
use Rattle.table_addresses.specs.declared.Area.TheVariants.{Relays}
use Rattle.table_registers.specs.declared.Profile.{Profile}
use Rattle.table_registers.specs.Table.{grants, allows, up_from, checked}
use Rattle.table_registers.specs.Bits.{word_of, words_of, masked}
use Rattle.table_registers.specs.Operation.{Operation, Judge, is_granted}
use Rattle.table_registers.specs.Profile.{member}
use Rattle.table_profiles.specs.declared.Data.TheVariants.{Same}
use Rattle.table_profiles.specs.Runs.{in_run, run_taken}
use Rattle.table_cells.specs.declared.Meeting.{Meeting}
use Rattle.table_cells.specs.declared.Meeting.TheVariants.{Never, At}
use Rattle.table_cells.specs.declared.Touched.{Touched}
use Rattle.table_cells.specs.Cells.{reading, writing, touches, may_pass, Cells}

-- runs of as many cells each have this one
unfoldable pub in_runs : ℕ → List ℕ → ℕ → Bool
in_runs each firsts c = some (λ first. in_run first each c) firsts

abbrev pub firsts_of : Touched → List ℕ
firsts_of t = take t.runs t.firsts

unfoldable pub cells_in : Touched → Cells
cells_in t way c = both (grants way t.way) (in_runs t.each (firsts_of t) c)

-- code and a definition say the same of every cell
abbrev pub Touches : Touched → Cells → Type 0
Touches t cells = (way c : ℕ) → cells_in t way c ≡ cells way c

-- the cells of an operation that some words let pass
abbrev pub operation_cells : Judge → ℕ → Operation → Cells
operation_cells judge n o way c = both (may_pass judge n o) (touches o way c)

-- ---- words, and bits, as the address check lets them be touched

-- n words from k on, in these ways, where the profile takes it too
unfoldable pub run_cells : List ℕ → Area → ℕ → ℕ → ℕ → Bool → Cells
run_cells attributes area ways k n taken way c =
    both (both (is_granted (checked (allows (length attributes) attributes area ways) 0 (up_from k n))) taken) (both (grants way ways) (in_run k n (word_of c)))

-- bits of relay words, in these ways
unfoldable pub bit_cells : List ℕ → ℕ → List ℕ → Cells
bit_cells attributes ways cells way c =
    both (is_granted (checked (allows (length attributes) attributes Relays ways) 0 (words_of cells))) (both (grants way ways) (member c cells))

-- some word of 16 bits lets a profile take what a mask write leaves in word k
unfoldable pub mask_may_pass : Profile → ℕ → ℕ → ℕ → Bool
mask_may_pass p k and_mask or_mask = some (λ v. run_taken p (Same (masked v and_mask or_mask)) k 1 []) (up_from 0 65536)

-- ---- the lowest cell

-- of a test that holds nowhere there is none; else it is where the test holds and before which it does not
abbrev pub Lowest : (ℕ → Bool) → Meeting → Type 0
Lowest p Never = (c : ℕ) → p c ≡ false
Lowest p (At k) = (p k ≡ true) × ((c : ℕ) → c < k → p c ≡ false)

-- the one writes, the other reads or writes
unfoldable pub ways_meet : ℕ → ℕ → Bool
ways_meet one other =
    either (both (grants writing one) (either (grants reading other) (grants writing other))) (both (grants reading one) (grants writing other))

-- the first cell that a run of n from a and a run of m from b share
unfoldable pub shared : ℕ → ℕ → ℕ → ℕ → Meeting
shared n a m b = pick (both (in_run a n (max a b)) (in_run b m (max a b))) (At (max a b)) Never

abbrev pub lower : Meeting → Meeting → Meeting
lower Never m = m
lower (At k) Never = At k
lower (At k) (At l) = At (min k l)

-- the lowest of what a list gives, and of one before it
unfoldable pub lowest_from : (ℕ → Meeting) → Meeting → List ℕ → Meeting
lowest_from g found [] = found
lowest_from g found (x ∷ xs) = lowest_from g (lower found (g x)) xs

abbrev pub lowest_of : (ℕ → Meeting) → List ℕ → Meeting
lowest_of g xs = lowest_from g Never xs
