-- Contacts stand at even places, values at odd ones. Assumes nothing.
use mathlib.Core.Path.{refl, sym, ◌∙◌}
use borrow.Author.Tests.{eq-eqb, ne_eqb}
use lib.ListN.{length}
use Rattle.mewtocol_asking.specs.Asking.{spread}
use Rattle.mewtocol_asking.proofs.Fit.{spread_at}
use Rattle.mewtocol_asking.proofs.numbers.setting_at.Goals as goal

pub returns-then-values-contacts : goal.returns-then-values-contacts
unfolding spread
returns-then-values-contacts c =
    let a = c.args in
    rw (ne_eqb (length a.values.now) (length a.contacts.now) c.if-values-contacts.true)

pub returns-then-j-eq0 : goal.returns-then-j-eq0
returns-then-j-eq0 c =
    let a = c.args in
    rw (eq-eqb (length a.values.now) (length a.contacts.now) c.if-values-contacts.false)
    (c.contact_at.ensures ∙ sym (spread_at a.contacts.now a.values.now a.j c.if-values-contacts.false ∙ rw (eq-eqb _ _ c.if-j-eq0.true) refl))

pub returns : goal.returns
returns c =
    let a = c.args in
    rw (eq-eqb (length a.values.now) (length a.contacts.now) c.if-values-contacts.false)
    (c.value_at.ensures ∙ sym (spread_at a.contacts.now a.values.now a.j c.if-values-contacts.false ∙ rw (ne_eqb _ _ c.if-j-eq0.false) refl))
