-- Each way says which request it is; what was read is within the lists and the word's size. Assumes nothing.
use Prim.Native.Nat.{◌≤◌}
use mathlib.Core.Path.{refl, sym, ◌∙◌}
use native.Mathlib.Omega.{arith}
use lib.ListN.{length}
use lib.Seq.{length-take-le}
use Rattle.mewtocol_frame.specs.Frame.{text_of}
use Rattle.mewtocol_requests.specs.Code.{words_in}
use Rattle.mewtocol_station.specs.Replies.{operation_of}
use Rattle.mewtocol_station.proofs.Operations.{written-are}
use Rattle.masters.proofs.Functions.{operation-as}
use Rattle.masters.proofs.Asking.{sound-as, few-read, few-written, asked_in, reads-contacts, writes-contacts, reads-range}
use Rattle.masters.proofs.mewtocol.request_touched.Goals as goal

pub slice_bounds-contacts_touched-end : goal.slice_bounds-contacts_touched-end
slice_bounds-contacts_touched-end c =
    let a = c.args in
    let ws = words_in (text_of a.frame.now) in
    let k = few-read a.limits _ a.contacts.now a.values.now ws (sound-as _ _ _ _ _ _ c.in-ReadContacts.is c.requires.3) in
    let h : c.in-ReadContacts.n ≤ length a.contacts.now = omega (arith, k, c.requires.1) in
    sym (length-take-le _ _ h)

pub contacts_touched-requires : goal.contacts_touched-requires
contacts_touched-requires c =
    let a = c.args in
    let ws = words_in (text_of a.frame.now) in
    let k = few-read a.limits _ a.contacts.now a.values.now ws (sound-as _ _ _ _ _ _ c.in-ReadContacts.is c.requires.3) in
    let h : c.in-ReadContacts.n ≤ length a.contacts.now = omega (arith, k, c.requires.1) in
    omega (arith, k, length-take-le c.in-ReadContacts.n a.contacts.now h)

pub slice_bounds-contacts_touched-end-in-WriteContacts : goal.slice_bounds-contacts_touched-end-in-WriteContacts
slice_bounds-contacts_touched-end-in-WriteContacts c =
    let a = c.args in
    let ws = words_in (text_of a.frame.now) in
    let k = few-written a.limits _ a.contacts.now a.values.now ws (sound-as _ _ _ _ _ _ c.in-WriteContacts.is c.requires.3) in
    let h : c.in-WriteContacts.n ≤ length a.contacts.now = omega (arith, k, c.requires.1) in
    sym (length-take-le _ _ h)

pub contacts_touched-requires-in-WriteContacts : goal.contacts_touched-requires-in-WriteContacts
contacts_touched-requires-in-WriteContacts c =
    let a = c.args in
    let ws = words_in (text_of a.frame.now) in
    let k = few-written a.limits _ a.contacts.now a.values.now ws (sound-as _ _ _ _ _ _ c.in-WriteContacts.is c.requires.3) in
    let h : c.in-WriteContacts.n ≤ length a.contacts.now = omega (arith, k, c.requires.1) in
    omega (arith, k, length-take-le c.in-WriteContacts.n a.contacts.now h)

pub returns-in-ReadContacts : goal.returns-in-ReadContacts
returns-in-ReadContacts c =
    let a = c.args in
    let ws = words_in (text_of a.frame.now) in
    let k = few-read a.limits _ a.contacts.now a.values.now ws (sound-as _ _ _ _ _ _ c.in-ReadContacts.is c.requires.3) in
    operation-as _ a.attributes.now a.profile (asked_in a.contacts.now a.values.now ws c.in-ReadContacts.is)
    (reads-contacts _ a.attributes.now a.profile c.in-ReadContacts.n a.contacts.now (omega (arith, k, c.requires.1)) c.contacts_touched.ensures)

pub returns-in-WriteContacts : goal.returns-in-WriteContacts
returns-in-WriteContacts c =
    let a = c.args in
    let ws = words_in (text_of a.frame.now) in
    let k = few-written a.limits _ a.contacts.now a.values.now ws (sound-as _ _ _ _ _ _ c.in-WriteContacts.is c.requires.3) in
    operation-as _ a.attributes.now a.profile (asked_in a.contacts.now a.values.now ws c.in-WriteContacts.is)
    (writes-contacts _ a.attributes.now a.profile c.in-WriteContacts.n a.contacts.now a.values.now (omega (arith, k, c.requires.1)) (omega (arith, k, c.requires.2)) c.contacts_touched-in-WriteContacts.ensures)

pub returns-in-ReadRange : goal.returns-in-ReadRange
returns-in-ReadRange c =
    let a = c.args in
    let ws = words_in (text_of a.frame.now) in
    operation-as _ a.attributes.now a.profile (asked_in a.contacts.now a.values.now ws c.in-ReadRange.is)
    (reads-range _ a.attributes.now a.profile _ _ _ _ _ c.words_touched.ensures c.in_digits-first.ensures c.span.ensures.0)

pub returns-in-WriteRange : goal.returns-in-WriteRange
returns-in-WriteRange c =
    let a = c.args in
    let ws = words_in (text_of a.frame.now) in
    operation-as _ a.attributes.now a.profile
    (written-are _ _ _ _ _ (text_of a.frame.now) _ refl c.span-n.ensures.0 c.data_text.ensures ∙ asked_in a.contacts.now a.values.now ws c.in-WriteRange.is) c.text_written.ensures

pub returns-in-Fill : goal.returns-in-Fill
unfolding operation_of
returns-in-Fill c =
    let a = c.args in
    let ws = words_in (text_of a.frame.now) in
    operation-as _ a.attributes.now a.profile (asked_in a.contacts.now a.values.now ws c.in-Fill.is) c.filled.ensures
