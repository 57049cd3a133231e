-- What a head takes besides what the attributes grant (RULES N12 to N14): a profile is a list of registers with their ranges, held against
-- an operation and the words that it would leave. Assumes nothing.
use Rattle.std.specs.Prelude.{ℕ, ◌+◌, ◌-◌, ◌*◌, Bool, true, false, not, List, [], ◌∷◌, eqb, leb, ltb, length, get_or}
use Rattle.rules.specs.Choice.{pick, both, either, some, between}
use Rattle.table_registers.specs.declared.Verdict.{Verdict}
use Rattle.table_registers.specs.declared.Verdict.TheVariants.{Granted, Lacking, Unfit}
use Rattle.table_registers.specs.declared.Profile.{Profile}
use Rattle.table_registers.specs.declared.Profile.TheVariants.{Free, HlG2}
use Rattle.table_registers.specs.Operation.{Operation, names, need, address_check, after, Judge}

-- ---- registers and their ranges

-- one word, from a lowest value to a highest; or two words that are one signed number, from -most to most
pub data Row : Type 0 where
  single : (word low high : ℕ) → Row
  pair : (word most : ℕ) → Row

-- two words as 32 bits, the lower 16 in the lower word
abbrev pub joined : ℕ → ℕ → ℕ
joined low high = low + 65536 * high

-- in two's complement -m is 2^32 - m
abbrev pub within : ℕ → ℕ → Bool
within most v = either (leb v most) (leb (4294967296 - most) v)

-- HL-G2, 50 mm: 400101 and 400103 in tenths of a micrometre, 400054, 400056, 400058, 400071
abbrev pub rows_of : Profile → List Row
rows_of Free = []
rows_of HlG2 = pair 100 950000 ∷ pair 102 950000 ∷ single 53 0 0 ∷ single 55 0 0 ∷ single 57 1 4 ∷ single 70 0 2 ∷ []

-- a write of such words that would leave such values: one that is written ends in its range; both halves are written, or none
abbrev pub keeps : (ℕ → Bool) → (ℕ → ℕ) → Row → Bool
keeps written value (single k low high) = pick (written k) (between low high (value k)) true
keeps written value (pair k most) =
    pick (written k) (both (written (k + 1)) (within most (joined (value k) (value (k + 1))))) (not (written (k + 1)))

abbrev pub all_kept : (ℕ → Bool) → (ℕ → ℕ) → List Row → Bool
all_kept written value [] = true
all_kept written value (r ∷ rs) = both (keeps written value r) (all_kept written value rs)

-- ---- an operation, and the words that it would leave

abbrev pub member : ℕ → List ℕ → Bool
member k = some (λ i. eqb i k)

abbrev pub writes_word : Operation → ℕ → Bool
writes_word o k = both (ltb 1 (need o)) (member k (names o))

unfoldable pub takes : Profile → Operation → List ℕ → Bool
takes p o left = all_kept (writes_word o) (λ k. get_or left k 0) (rows_of p)

-- ---- the verdict

-- a profile refuses what the address check lets pass, and nothing else
abbrev pub fitting : Bool → Verdict → Verdict
fitting true v = v
fitting false Granted = Unfit
fitting false (Lacking i) = Lacking i
fitting false Unfit = Unfit

-- all that is looked at before anything is done
abbrev pub verdict : Profile → List ℕ → Judge
verdict p attributes words o = fitting (takes p o (after o words)) (address_check attributes (length words) o)

-- as it was before there were profiles
abbrev pub address_verdict : List ℕ → Judge
address_verdict attributes words o = address_check attributes (length words) o
