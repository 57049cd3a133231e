-- Each arm is one kind. Assumes nothing.
use mathlib.Core.Path.{ap, ◌∙◌}
use mathlib.Core.List.{List}
use Rattle.mewtocol_commands.specs.Rows.{widths}
use Rattle.mewtocol_commands.specs.Commands.{layout}
use Rattle.mewtocol_steps.specs.Steps.{start_in, end_in, all_fields}
use Rattle.mewtocol_commands.specs.declared.Kind.{Kind}
use Rattle.mewtocol_commands.specs.Code.{number_in}
use Rattle.mewtocol_commands.specs.declared.Field.{Field}
use Rattle.mewtocol_requests.proofs.Making.{contacts-made, settings-made, range-made, words-made, fill-made}
use Rattle.mewtocol_requests.proofs.texts.make.Goals as goal

pub returns-in-ReadContacts : goal.returns-in-ReadContacts
returns-in-ReadContacts c =
    let a = c.args in
    rw c.in-ReadContacts.is (contacts-made c.in-ReadContacts.many a.n c.how_many-k.result a.text.now a.contacts.now a.values.now c.take_contacts.new.contacts _ c.contact.ensures c.how_many-k.ensures c.take_contacts.ensures)

pub returns-in-WriteContacts : goal.returns-in-WriteContacts
returns-in-WriteContacts c =
    let a = c.args in
    rw c.in-WriteContacts.is
    (settings-made c.in-WriteContacts.many a.n c.how_many-k-in-WriteContacts.result a.text.now a.contacts.now a.values.now c.take_contacts-in-WriteContacts.new.contacts c.take_values.new.values _
    c.setting.ensures c.how_many-k-in-WriteContacts.ensures c.take_contacts-in-WriteContacts.ensures c.take_values.ensures)

pub returns-in-ReadRange : goal.returns-in-ReadRange
returns-in-ReadRange c =
    let o = c in
    let a = o.args in
    let kind-is = c.in-ReadRange.is in
    rw kind-is
    (range-made a.n a.start a.end a.text.now a.contacts.now a.values.now c.in-ReadRange.a
    (o.requires.4 ∙ ap (λ (k : Kind). start_in (layout k) a.text.now) kind-is) (o.requires.5 ∙ ap (λ (k : Kind). end_in (layout k) a.text.now) kind-is))

pub returns-in-WriteRange : goal.returns-in-WriteRange
returns-in-WriteRange c =
    let o = c in
    let a = o.args in
    let kind-is = c.in-WriteRange.is in
    rw kind-is
    (words-made a.n a.start a.end a.text.now a.contacts.now a.values.now c.in-WriteRange.a
    (o.requires.4 ∙ ap (λ (k : Kind). start_in (layout k) a.text.now) kind-is) (o.requires.5 ∙ ap (λ (k : Kind). end_in (layout k) a.text.now) kind-is)
    (o.requires.3 ∙ ap (λ (k : Kind). widths (all_fields (layout k) a.n a.text.now)) kind-is))

pub returns-in-Fill : goal.returns-in-Fill
returns-in-Fill c =
    let o = c in
    let a = o.args in
    let kind-is = c.in-Fill.is in
    rw kind-is
    (fill-made a.n a.start a.end a.text.now a.contacts.now a.values.now c.number.result
    (o.requires.4 ∙ ap (λ (k : Kind). start_in (layout k) a.text.now) kind-is) (o.requires.5 ∙ ap (λ (k : Kind). end_in (layout k) a.text.now) kind-is)
    (c.number.ensures ∙ ap (λ (r : List Field). number_in 2 r a.text.now) c.filling.ensures))
