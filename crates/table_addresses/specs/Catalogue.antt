-- Numbers as the catalogue prints them and addresses as a frame carries them (RULES N3 to N5). Only the four
-- conversions turn one into the other; outside their ranges they give 5. Assumes nothing.
use Rattle.std.specs.Prelude.{ℕ, ◌+◌, ◌-◌, [], ◌∷◌, leb}
use Rattle.rules.specs.Tests.{◌unless◌, first}
use Rattle.rules.specs.Given.{Given, gives, refused, refusal}
use Rattle.table_addresses.specs.declared.RegisterNumber.{RegisterNumber}
use Rattle.table_addresses.specs.declared.FrameAddress.{FrameAddress}
use Rattle.table_addresses.specs.declared.CoilNumber.{CoilNumber}
use Rattle.table_addresses.specs.declared.CoilAddress.{CoilAddress}
use Rattle.table_addresses.specs.declared.RegisterAt.{RegisterAt}
use Rattle.table_addresses.specs.declared.RegisterAt.TheVariants as at
use Rattle.table_addresses.specs.declared.RegisterIs.{RegisterIs}
use Rattle.table_addresses.specs.declared.RegisterIs.TheVariants as is
use Rattle.table_addresses.specs.declared.CoilAt.{CoilAt}
use Rattle.table_addresses.specs.declared.CoilAt.TheVariants as coil_at
use Rattle.table_addresses.specs.declared.CoilIs.{CoilIs}
use Rattle.table_addresses.specs.declared.CoilIs.TheVariants as coil_is

-- how many words a table has at most; the catalogue numbers as many registers
abbrev pub table_limit : ℕ
table_limit = 65536

-- a number from lo on, n of them, is told from another start; outside it is 5
abbrev pub moved : ℕ → ℕ → ℕ → ℕ → Given
moved lo n start x = first refused ((5 unless leb lo x) ∷ (5 unless leb x (lo + n - 1)) ∷ []) (gives (x - lo + start))

-- registers 400001 on are addresses 0 on
unfoldable pub register_address : ℕ → Given
register_address x = moved 400001 table_limit 0 x

unfoldable pub register_number : ℕ → Given
register_number x = moved 0 table_limit 400001 x

-- coils 000161 to 000256 are addresses 160 to 255
unfoldable pub coil_address : ℕ → Given
coil_address x = moved 161 96 160 x

unfoldable pub coil_number : ℕ → Given
coil_number x = moved 160 96 161 x

-- ---- what the kinds hold

abbrev pub number_of : RegisterNumber → ℕ
number_of n = n.0

abbrev pub address_of : FrameAddress → ℕ
address_of a = a.0

abbrev pub coil_number_of : CoilNumber → ℕ
coil_number_of n = n.0

abbrev pub coil_address_of : CoilAddress → ℕ
coil_address_of a = a.0

-- the number of each answer (RULES C1)
abbrev pub given_at : RegisterAt → Given
given_at (at.Address a) = gives (address_of a)
given_at (at.Refused r) = refusal r

abbrev pub given_is : RegisterIs → Given
given_is (is.Number n) = gives (number_of n)
given_is (is.Refused r) = refusal r

abbrev pub given_coil_at : CoilAt → Given
given_coil_at (coil_at.Address a) = gives (coil_address_of a)
given_coil_at (coil_at.Refused r) = refusal r

abbrev pub given_coil_is : CoilIs → Given
given_coil_is (coil_is.Number n) = gives (coil_number_of n)
given_coil_is (coil_is.Refused r) = refusal r
