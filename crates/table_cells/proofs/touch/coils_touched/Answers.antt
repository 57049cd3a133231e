-- What is refused touches nothing; what is granted lies in the relay words. Assumes nothing.
use native.Mathlib.Omega.{arith}
use Rattle.table_addresses.specs.Catalogue.{coil_address_of}
use Rattle.table_addresses.specs.Areas.{coil_cell}
use Rattle.table_registers.specs.Table.{up_from}
use Rattle.table_cells.proofs.Touching.{decided, bits_none, bits-refused, bits-there, no-coils, coils-small, coil-run}
use Rattle.table_cells.proofs.touch.coils_touched.Goals as goal

pub returns-then-count-lt1 : goal.returns-then-count-lt1
returns-then-count-lt1 c =
    let a = c.args in
    let cell = coil_cell (coil_address_of a.first) in
    bits_none _ a.attributes.now a.ways (up_from cell a.count) c.nothing.ensures (no-coils cell a.count c.if-count-lt1.true)

pub returns-then-not-is_granted : goal.returns-then-not-is_granted
returns-then-not-is_granted c =
    let a = c.args in
    let cell = coil_cell (coil_address_of a.first) in
    bits-refused _ a.attributes.now a.ways (up_from cell a.count) c.nothing-then-not-is_granted.ensures
    (decided c.first_lacking_coil-found.ensures c.is_granted.ensures c.if-not-is_granted.true)

pub overflow_cast-cell : goal.overflow_cast-cell
overflow_cast-cell c =
    let a = c.args in
    let granted = decided c.first_lacking_coil-found.ensures c.is_granted.ensures c.if-not-is_granted.false in
    omega (arith, c.cell-cell.ensures, coils-small a.attributes.now a.ways (coil_cell (coil_address_of a.first)) a.count granted (omega (arith, c.if-count-lt1.false)))

pub returns : goal.returns
returns c =
    let a = c.args in
    let cell = coil_cell (coil_address_of a.first) in
    let granted = decided c.first_lacking_coil-found.ensures c.is_granted.ensures c.if-not-is_granted.false in
    bits-there _ a.attributes.now a.ways (up_from cell a.count) (coil-run _ a.ways cell a.count c.run.ensures c.cell-cell.ensures) granted
