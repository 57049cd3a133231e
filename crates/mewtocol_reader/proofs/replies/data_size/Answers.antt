-- Each arm is one kind. Assumes nothing.
use mathlib.Core.Path.{ap, ◌∙◌}
use Prim.Native.Nat.{ℕ, ◌*◌}
use Rattle.rules.proofs.Choose.{via}
use Rattle.mewtocol_commands.specs.Commands.{Entry}
use Rattle.mewtocol_commands.specs.declared.Kind.{Kind}
use Rattle.mewtocol_asking.specs.Asking.{listed_by}
use Rattle.mewtocol_asking.specs.Code.{request_for}
use Rattle.mewtocol_reader.specs.Replies.{data_size}
use Rattle.mewtocol_reader.proofs.replies.data_size.Goals as goal

pub returns-in-ReadContacts : goal.returns-in-ReadContacts
unfolding data_size
returns-in-ReadContacts c =
    let a = c.args in
    let k = via (ap (λ (e : Entry). e.kind) c.entry-e.ensures) c.in-ReadContacts.is in
    rw k (c.listed.ensures ∙ ap (λ (z : Kind). listed_by (request_for z a.asking.now.first a.asking.now.second a.asking.now.third a.asking.now.contacts.now a.asking.now.values.now a.asking.now.words.now)) k)

pub returns-in-WriteContacts : goal.returns-in-WriteContacts
unfolding data_size
returns-in-WriteContacts c = let k = via (ap (λ (e : Entry). e.kind) c.entry-e.ensures) c.in-WriteContacts.is in rw k

pub returns-in-ReadRange : goal.returns-in-ReadRange
unfolding data_size
returns-in-ReadRange c = let k = via (ap (λ (e : Entry). e.kind) c.entry-e.ensures) c.in-ReadRange.is in rw k (ap (λ (n : ℕ). 4 * n) c.span.ensures.0)

pub returns-in-WriteRange : goal.returns-in-WriteRange
unfolding data_size
returns-in-WriteRange c = let k = via (ap (λ (e : Entry). e.kind) c.entry-e.ensures) c.in-WriteRange.is in rw k

pub returns-in-Fill : goal.returns-in-Fill
unfolding data_size
returns-in-Fill c = let k = via (ap (λ (e : Entry). e.kind) c.entry-e.ensures) c.in-Fill.is in rw k
