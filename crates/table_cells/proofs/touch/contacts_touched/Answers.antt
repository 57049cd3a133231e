-- The invariant: the first i contacts' cells stand at the start. Assumes nothing.
use mathlib.Core.List.{map}
use mathlib.Core.Path.{refl}
use native.Mathlib.Omega.{arith}
use Rattle.table_addresses.specs.Areas.{contact_cell}
use Rattle.table_cells.proofs.Touching.{decided, bits-refused, bits-there, contact-runs, contacts-small, all-contacts}
use Rattle.table_cells.proofs.touch.contacts_touched.Goals as goal

pub returns-then-not-is_granted : goal.returns-then-not-is_granted
returns-then-not-is_granted c =
    let a = c.args in
    bits-refused _ a.attributes.now a.ways (map contact_cell a.contacts.now) c.nothing.ensures
    (decided c.first_lacking_contact-found.ensures c.is_granted.ensures c.if-not-is_granted.true)

pub overflow_cast-firsts : goal.overflow_cast-firsts
overflow_cast-firsts c =
    let a = c.args in
    let granted = decided c.first_lacking_contact-found.ensures c.is_granted.ensures c.if-not-is_granted.false in
    omega (arith, c.contact_cell.ensures, contacts-small a.attributes.now a.ways a.contacts.now granted c.loop-i.i c.loop-i-test.true)

pub returns : goal.returns
returns c =
    let a = c.args in
    let granted = decided c.first_lacking_contact-found.ensures c.is_granted.ensures c.if-not-is_granted.false in
    bits-there _ a.attributes.now a.ways (map contact_cell a.contacts.now)
    (contact-runs _ a.ways (map contact_cell a.contacts.now) refl refl (all-contacts contact_cell a.contacts.now c.loop-i.firsts c.loop-i.i c.loop-i-test.false (omega arith) c.loop-i.invariant.1)) granted
