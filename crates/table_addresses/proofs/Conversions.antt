-- The statements of specs/Statements, and that each answer has one number. Assumes nothing.
use mathlib.Core.Path.{◌≡◌, refl}
use native.Mathlib.Omega.{arith}
use lib.Dec.{lit<}
use Rattle.rules.specs.Choice.{between}
use Rattle.rules.specs.Given.{Given, gives, refused, Once}
use Rattle.rules.proofs.Once.{once}
use Rattle.text_digits.specs.Digits.{running, decimal_value}
use Rattle.text_hex.specs.Hex.{hex_value}
use Rattle.table_addresses.specs.Catalogue.{table_limit, register_address, register_number, coil_address, coil_number, given_at, given_is, given_coil_at, given_coil_is}
use Rattle.table_addresses.specs.Cells.{contact_of}
use Rattle.table_addresses.specs.Statements.{ThereAndBack, OneCell, ThreeNames}
use Rattle.table_addresses.specs.declared.RegisterAt.{RegisterAt}
use Rattle.table_addresses.specs.declared.RegisterAt.TheVariants as at
use Rattle.table_addresses.specs.declared.RegisterIs.{RegisterIs}
use Rattle.table_addresses.specs.declared.RegisterIs.TheVariants as is
use Rattle.table_addresses.specs.declared.CoilAt.{CoilAt}
use Rattle.table_addresses.specs.declared.CoilAt.TheVariants as coil_at
use Rattle.table_addresses.specs.declared.CoilIs.{CoilIs}
use Rattle.table_addresses.specs.declared.CoilIs.TheVariants as coil_is
use Rattle.table_addresses.proofs.Moved.{moved_back}

pub register-there-and-back : ThereAndBack register_address register_number
unfolding register_address register_number
register-there-and-back x y = moved_back 400001 table_limit 0 x y (lit< tt)

pub address-there-and-back : ThereAndBack register_number register_address
unfolding register_address register_number
address-there-and-back x y = moved_back 0 table_limit 400001 x y (lit< tt)

pub coil-there-and-back : ThereAndBack coil_address coil_number
unfolding coil_address coil_number
coil-there-and-back x y = moved_back 161 96 160 x y (lit< tt)

pub coil-address-there-and-back : ThereAndBack coil_number coil_address
unfolding coil_address coil_number
coil-address-there-and-back x y = moved_back 160 96 161 x y (lit< tt)

pub one_cell : OneCell
one_cell i b hi hb = (omega arith, omega arith, omega arith, omega arith)

pub three-names : ThreeNames
unfolding coil_address between contact_of running decimal_value hex_value
three-names = record { coil = refl; contact = refl; one_cell = (refl, refl) }

-- ---- one answer only

abbrev at_of : Given → RegisterAt
at_of (gives a) = at.Address (record { 0 = a })
at_of (refused k) = at.Refused (record { 0 = k })

at_of-given : (r : RegisterAt) → at_of (given_at r) ≡ r
at_of-given (at.Address a) = refl
at_of-given (at.Refused r) = refl

pub one-register-address : Once given_at
one-register-address = once given_at at_of at_of-given

abbrev is_of : Given → RegisterIs
is_of (gives n) = is.Number (record { 0 = n })
is_of (refused k) = is.Refused (record { 0 = k })

is_of-given : (r : RegisterIs) → is_of (given_is r) ≡ r
is_of-given (is.Number n) = refl
is_of-given (is.Refused r) = refl

pub one-register-number : Once given_is
one-register-number = once given_is is_of is_of-given

abbrev coil_at_of : Given → CoilAt
coil_at_of (gives a) = coil_at.Address (record { 0 = a })
coil_at_of (refused k) = coil_at.Refused (record { 0 = k })

coil_at_of-given : (r : CoilAt) → coil_at_of (given_coil_at r) ≡ r
coil_at_of-given (coil_at.Address a) = refl
coil_at_of-given (coil_at.Refused r) = refl

pub one-coil-address : Once given_coil_at
one-coil-address = once given_coil_at coil_at_of coil_at_of-given

abbrev coil_is_of : Given → CoilIs
coil_is_of (gives n) = coil_is.Number (record { 0 = n })
coil_is_of (refused k) = coil_is.Refused (record { 0 = k })

coil_is_of-given : (r : CoilIs) → coil_is_of (given_coil_is r) ≡ r
coil_is_of-given (coil_is.Number n) = refl
coil_is_of-given (coil_is.Refused r) = refl

pub one-coil-number : Once given_coil_is
one-coil-number = once given_coil_is coil_is_of coil_is_of-given
