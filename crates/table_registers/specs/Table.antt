-- What a word of the table allows, and the address check (RULES N1, N2, N10).
-- Assumes nothing.
use Rattle.std.specs.Prelude.{ℕ, zero, suc, List, [], ◌∷◌, Bool, true, ltb, eqb, get_or}
use Rattle.std.specs.Int.Bits.{bit_and}
use Rattle.rules.specs.Choice.{pick, both, between}
use Rattle.table_addresses.specs.Areas.{first_relay, last_relay}
use Rattle.table_addresses.specs.declared.Area.{Area}
use Rattle.table_addresses.specs.declared.Area.TheVariants.{Relays, Registers}
use Rattle.table_registers.specs.declared.Verdict.{Verdict}
use Rattle.table_registers.specs.declared.Verdict.TheVariants.{Granted, Lacking}

-- an attribute has what is needed: 1 read, 2 write, 3 both
unfoldable pub grants : ℕ → ℕ → Bool
grants need a = eqb (bit_and a need) need

-- where a word may be named: in the relay words only, or anywhere in the table
abbrev pub in_area : Area → ℕ → Bool
in_area Relays k = between first_relay last_relay k
in_area Registers k = true

-- word k is in a table of n words, may be named and has what is needed
unfoldable pub allows : ℕ → List ℕ → Area → ℕ → ℕ → Bool
allows n attributes area need k = both (in_area area k) (both (ltb k n) (grants need (get_or attributes k 0)))

-- the numbers from k on, n of them
unfoldable pub up_from : ℕ → ℕ → List ℕ
up_from k zero = []
up_from k (suc n) = k ∷ up_from (suc k) n

-- the check ends at the first element of which a test does not hold; places are counted from i on
unfoldable pub checked : (ℕ → Bool) → ℕ → List ℕ → Verdict
checked p i [] = Granted
checked p i (k ∷ ks) = pick (p k) (checked p (suc i) ks) (Lacking i)
