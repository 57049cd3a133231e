-- The outer invariant: the answer for the whole list is the answer for what is left. The inner: no relay word passed is the contact's.
-- Assumes nothing.
use mathlib.Core.Path.{◌∙◌, sym, ap}
use Prim.Native.Nat.{◌/◌}
use native.Mathlib.Nat.{add-zero}
use native.Mathlib.Omega.{arith}
use Rattle.table_addresses.specs.declared.Area.TheVariants.{Relays}
use Rattle.rules.proofs.Choose.{via, pick_yes, pick_no}
use Rattle.table_addresses.specs.Areas.{contact_cell}
use Rattle.table_registers.specs.Table.{allows}
use Rattle.table_registers.specs.Bits.{word_of}
use Rattle.table_registers.proofs.Lacking.{list-cells, next-turn, next-none, relay, no-relay}
use Rattle.table_registers.proofs.check.first_lacking_contact.Goals as goal

pub contacts-preserved : goal.contacts-preserved
contacts-preserved c =
    let w = c.contact_cell-word.result / 16 in
    let s = c.in-Some.ensures.steps in
    c.contacts.invariant ∙ next-turn _ s.0 s.1 s.2 (ap (allows _ _ Relays _) (ap word_of c.contact_cell-word.ensures))
    ∙ pick_yes _ _ _ (relay _ _ _ w (omega arith) (omega arith) ∙ rw add-zero at (via c.allows.ensures c.if-not-allows.false))

pub returns-in_default : goal.returns-in_default
returns-in_default c = sym (list-cells _ contact_cell _ ∙ c.contacts.invariant ∙ next-none _ _ _ c.in_default.ensures.steps.0.0)

pub returns-after-loop-relay : goal.returns-after-loop-relay
returns-after-loop-relay c =
    let w = c.contact_cell-word.result / 16 in
    let s = c.in-Some.ensures.steps in
    sym (list-cells _ contact_cell _ ∙ c.contacts.invariant ∙ next-turn _ s.0 s.1 s.2 (ap (allows _ _ Relays _) (ap word_of c.contact_cell-word.ensures))
    ∙ pick_no _ _ _ (no-relay _ _ _ w c.loop-relay.relay (omega arith) c.loop-relay.invariant))

pub returns-then-not-allows : goal.returns-then-not-allows
returns-then-not-allows c =
    let w = c.contact_cell-word.result / 16 in
    let s = c.in-Some.ensures.steps in
    sym (list-cells _ contact_cell _ ∙ c.contacts.invariant ∙ next-turn _ s.0 s.1 s.2 (ap (allows _ _ Relays _) (ap word_of c.contact_cell-word.ensures))
    ∙ pick_no _ _ _ (relay _ _ _ w (omega arith) (omega arith) ∙ rw add-zero at (via c.allows.ensures c.if-not-allows.true)))
