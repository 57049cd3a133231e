-- Each way says which request it is; what was read is within the lists and the word's size. Assumes nothing.
use mathlib.Core.Path.{◌≡◌, sym, ap, ◌∙◌}
use mathlib.Core.Path.{subst}
use mathlib.Core.List.{List}
use Prim.Native.Nat.{ℕ, ◌≤◌}
use native.Mathlib.Omega.{arith}
use lib.ListN.{length}
use lib.Seq.{length-take-le}
use Rattle.table_registers.proofs.Done.{carried-as}
use Rattle.mewtocol_frame.specs.declared.Limits.{Limits}
use Rattle.mewtocol_frame.specs.Frame.{text_of}
use Rattle.mewtocol_requests.specs.declared.Request as code
use Rattle.mewtocol_requests.specs.declared.Request.TheVariants.{ReadContacts, WriteContacts}
use Rattle.mewtocol_requests.specs.Code.{request_of, front, words_in}
use Rattle.mewtocol_requests.specs.Sound.{Sound}
use Rattle.mewtocol_station.specs.Replies.{operation_of}
use Rattle.mewtocol_station.proofs.Operations.{front_length, paired-length, contacts-carried, range-carried, settings-are, written-are, filled-are}
use Rattle.mewtocol_station.proofs.doing.carry_out.Goals as goal

-- what is known of the request in a way
sound-as : (l : Limits) (q q' : code.Request) (cs vs : List ℕ) (ws : ℕ → List ℕ) → q ≡ q' → Sound l (request_of q cs vs ws) → Sound l (request_of q' cs vs ws)
sound-as l q q' cs vs ws e s = subst (λ (x : code.Request). Sound l (request_of x cs vs ws)) e s

few-read : (l : Limits) (n : ℕ) (cs vs : List ℕ) (ws : ℕ → List ℕ) → Sound l (request_of (ReadContacts n) cs vs ws) → n ≤ 8
few-read l n cs vs ws s = omega (arith, s.ordered.most, front_length n cs)

few-written : (l : Limits) (n : ℕ) (cs vs : List ℕ) (ws : ℕ → List ℕ) → Sound l (request_of (WriteContacts n) cs vs ws) → n ≤ 8
few-written l n cs vs ws s = omega (arith, s.ordered.most, paired-length (front n cs) vs, front_length n cs)

-- the operation of the request in a way is that of the request
asked : {q q' : code.Request} (cs vs : List ℕ) (ws : ℕ → List ℕ) → q ≡ q' → operation_of (request_of q' cs vs ws) ≡ operation_of (request_of q cs vs ws)
asked cs vs ws e = ap (λ (x : code.Request). operation_of (request_of x cs vs ws)) (sym e)

pub slice_bounds-first_lacking_contact-end : goal.slice_bounds-first_lacking_contact-end
slice_bounds-first_lacking_contact-end c = let a = c.args in
    let k = few-read c.requires.2.0 _ a.contacts.now a.values.now (words_in (text_of a.frame.now)) (sound-as _ _ _ _ _ _ c.in-ReadContacts.is c.requires.2.1) in
    let h : c.in-ReadContacts.n ≤ length a.contacts.now = omega (arith, k, c.requires.0) in
    sym (length-take-le _ _ h)

pub slice_bounds-write_contacts-end : goal.slice_bounds-write_contacts-end
slice_bounds-write_contacts-end c = let a = c.args in
    let k = few-written c.requires.2.0 _ a.contacts.now a.values.now (words_in (text_of a.frame.now)) (sound-as _ _ _ _ _ _ c.in-WriteContacts.is c.requires.2.1) in
    let h : c.in-WriteContacts.n ≤ length a.contacts.now = omega (arith, k, c.requires.0) in
    sym (length-take-le _ _ h)

pub slice_bounds-write_contacts-end-in-WriteContacts : goal.slice_bounds-write_contacts-end-in-WriteContacts
slice_bounds-write_contacts-end-in-WriteContacts c = let a = c.args in
    let k = few-written c.requires.2.0 _ a.contacts.now a.values.now (words_in (text_of a.frame.now)) (sound-as _ _ _ _ _ _ c.in-WriteContacts.is c.requires.2.1) in
    let h : c.in-WriteContacts.n ≤ length a.values.now = omega (arith, k, c.requires.1) in
    sym (length-take-le _ _ h)

pub returns-in-ReadContacts : goal.returns-in-ReadContacts
returns-in-ReadContacts c = let a = c.args in
    let k = few-read c.requires.2.0 _ a.contacts.now a.values.now (words_in (text_of a.frame.now)) (sound-as _ _ _ _ _ _ c.in-ReadContacts.is c.requires.2.1) in
    carried-as (asked a.contacts.now a.values.now (words_in (text_of a.frame.now)) c.in-ReadContacts.is)
    (contacts-carried a.profile a.words.now a.attributes.now a.contacts.now _ _ (omega (arith, k, c.requires.0)) c.first_lacking_contact.ensures)

pub returns-in-WriteContacts : goal.returns-in-WriteContacts
returns-in-WriteContacts c = let a = c.args in
    let k = few-written c.requires.2.0 _ a.contacts.now a.values.now (words_in (text_of a.frame.now)) (sound-as _ _ _ _ _ _ c.in-WriteContacts.is c.requires.2.1) in
    carried-as (settings-are c.in-WriteContacts.n a.contacts.now a.values.now (omega (arith, k, c.requires.0)) (omega (arith, k, c.requires.1)) ∙ asked a.contacts.now a.values.now (words_in (text_of a.frame.now)) c.in-WriteContacts.is)
    (c.write_contacts.ensures a.profile)

pub returns-in-ReadRange : goal.returns-in-ReadRange
returns-in-ReadRange c = let a = c.args in
    carried-as (asked a.contacts.now a.values.now (words_in (text_of a.frame.now)) c.in-ReadRange.is)
    (range-carried a.profile a.words.now a.attributes.now _ _ _ _ _ _ c.in_digits-first.ensures c.span.ensures.0 c.first_lacking.ensures)

pub returns-in-WriteRange : goal.returns-in-WriteRange
returns-in-WriteRange c = let a = c.args in
    carried-as (written-are _ _ _ _ _ (text_of a.frame.now) _ c.in_digits-first-in-WriteRange.ensures c.span-n.ensures.0 c.data_text.ensures ∙ asked a.contacts.now a.values.now (words_in (text_of a.frame.now)) c.in-WriteRange.is)
    c.write_text.ensures

pub returns-in-Fill : goal.returns-in-Fill
returns-in-Fill c = let a = c.args in
    carried-as (filled-are _ _ _ _ _ c.in_digits-first-in-Fill.ensures c.span-in-Fill.ensures.0 ∙ asked a.contacts.now a.values.now (words_in (text_of a.frame.now)) c.in-Fill.is)
    c.fill_words.ensures
