-- Each arm is one kind. Assumes nothing.
use mathlib.Core.Path.{sym, ap}
use borrow.Author.Tests.{not-false, eq-eqb}
use lib.ListN.{length}
use Rattle.rules.proofs.Choose.{via}
use Rattle.mewtocol_commands.specs.Commands.{Entry}
use Rattle.mewtocol_requests.proofs.Lists.{paired-length}
use Rattle.mewtocol_asking.proofs.numbers.listed.Goals as goal

pub returns-then-asking : goal.returns-then-asking
returns-then-asking c =
    let a = c.args in
    let k = via (ap (λ (e : Entry). e.kind) c.entry-e.ensures) c.in-WriteContacts.is in
    rw (k, not-false c.in-WriteContacts.many c.if-not-many.false-raw, eq-eqb (length a.asking.now.values.now) (length a.asking.now.contacts.now) c.if-asking.true) (sym (paired-length a.asking.now.contacts.now a.asking.now.values.now))
