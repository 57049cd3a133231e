-- The check's answer decides. Assumes nothing.
use mathlib.Core.Path.{refl, sym, ◌∙◌}
use Rattle.table_registers.specs.Operation.{address_check, after}
use Rattle.rules.proofs.Choose.{via}
use Rattle.table_registers.proofs.Profiles.{relays-judged}
use Rattle.table_registers.proofs.Done.{Carried-done, Carried-refused}
use Rattle.table_bit_writes.proofs.write_contacts.Goals as goal

pub returns-then-is_granted : goal.returns-then-is_granted
unfolding address_check after
returns-then-is_granted c = λ p. Carried-done (c.first_lacking_contact-found.ensures ∙ sym (relays-judged p _ _ _ refl)) (via c.is_granted.ensures c.if-is_granted.true) c.put_contacts.ensures

pub returns-else-is_granted : goal.returns-else-is_granted
unfolding address_check
returns-else-is_granted c = λ p. Carried-refused (c.first_lacking_contact-found.ensures ∙ sym (relays-judged p _ _ _ refl)) (via c.is_granted.ensures c.if-is_granted.false) refl
