-- Each way says which request it is. Assumes nothing.
use mathlib.Core.Path.{◌≡◌, sym, ap, ◌∙◌}
use mathlib.Core.Path.{subst}
use mathlib.Core.List.{List, [], ◌∷◌, ◌++◌}
use Rattle.rules.specs.Characters.{letter_w}
use Prim.Native.Nat.{ℕ, ◌≤◌}
use native.Mathlib.Omega.{arith}
use lib.ListN.{length, length-take}
use lib.Seq.{length-take-le}
use Rattle.table_registers.specs.Operation.{shows}
use Rattle.station.specs.Site.{good}
use Rattle.station.proofs.Done.{put_as}
use Rattle.mewtocol_frame.specs.declared.Limits.{Limits}
use Rattle.mewtocol_requests.specs.declared.Request as code
use Rattle.mewtocol_requests.specs.declared.Request.TheVariants.{ReadContacts}
use Rattle.mewtocol_requests.specs.Code.{request_of}
use Rattle.mewtocol_requests.specs.Sound.{Sound}
use Rattle.mewtocol_station.specs.Replies.{operation_of, reply_of, reply_frame}
use Rattle.mewtocol_station.proofs.Operations.{front_length, contacts-shown, range-shown}
use Rattle.mewtocol_station.proofs.replies.show.Goals as goal

sound-as : (l : Limits) (q q' : code.Request) (cs vs : List ℕ) (ws : ℕ → List ℕ) → q ≡ q' → Sound l (request_of q cs vs ws) → Sound l (request_of q' cs vs ws)
sound-as l q q' cs vs ws e s = subst (λ (x : code.Request). Sound l (request_of x cs vs ws)) e s

few : (l : Limits) (n : ℕ) (cs vs : List ℕ) (ws : ℕ → List ℕ) → Sound l (request_of (ReadContacts n) cs vs ws) → n ≤ 8
few l n cs vs ws s = omega (arith, s.ordered.most, front_length n cs)

-- the good reply to the request in a way is that to the request
asked : (header own : ℕ) {q q' : code.Request} (words cs vs : List ℕ) (ws : ℕ → List ℕ) → q ≡ q'
    → reply_frame header own (good (reply_of (request_of q cs vs ws) (shows (operation_of (request_of q cs vs ws)) words)))
    ≡ reply_frame header own (good (reply_of (request_of q' cs vs ws) (shows (operation_of (request_of q' cs vs ws)) words)))
asked header own words cs vs ws e =
    ap (λ (x : code.Request). reply_frame header own (good (reply_of (request_of x cs vs ws) (shows (operation_of (request_of x cs vs ws)) words)))) e

pub slice_bounds-show_contacts-end : goal.slice_bounds-show_contacts-end
slice_bounds-show_contacts-end c = let a = c.args in
    let p = c.requires.1 in
    let k = few p.0 _ a.contacts.now p.1 p.2 (sound-as _ _ _ _ _ _ c.in-ReadContacts.is p.3) in
    let h : c.in-ReadContacts.n ≤ length a.contacts.now = omega (arith, k, c.requires.0) in
    sym (length-take-le _ _ h)

pub show_contacts-requires : goal.show_contacts-requires
show_contacts-requires c = let a = c.args in
    let p = c.requires.1 in
    let k = few p.0 _ a.contacts.now p.1 p.2 (sound-as _ _ _ _ _ _ c.in-ReadContacts.is p.3) in
    omega (arith, k, p.4.contacts, p.5, length-take c.in-ReadContacts.n a.contacts.now)

pub returns-in-ReadContacts : goal.returns-in-ReadContacts
returns-in-ReadContacts c = λ vs ws. let a = c.args in
    let p = c.requires.1 in
    let k = few p.0 _ a.contacts.now p.1 p.2 (sound-as _ _ _ _ _ _ c.in-ReadContacts.is p.3) in
    put_as (asked _ _ a.words.now a.contacts.now vs ws c.in-ReadContacts.is ∙ contacts-shown _ _ _ a.words.now a.contacts.now (omega (arith, k, c.requires.0))) c.show_contacts.ensures

pub returns-in-WriteContacts : goal.returns-in-WriteContacts
unfolding reply_of operation_of shows
returns-in-WriteContacts c = λ vs ws. let a = c.args in put_as (asked _ _ a.words.now a.contacts.now vs ws c.in-WriteContacts.is) c.acknowledge.ensures

pub returns-in-ReadRange : goal.returns-in-ReadRange
returns-in-ReadRange c = λ vs ws. let a = c.args in
    put_as (asked _ _ a.words.now a.contacts.now vs ws c.in-ReadRange.is ∙ range-shown _ _ _ _ _ _ _ _ a.words.now _ c.name_letter.ensures c.in_digits-first.ensures c.span.ensures.0 c.words_from-shown.ensures) c.show_words.ensures

pub returns-in-WriteRange : goal.returns-in-WriteRange
unfolding reply_of operation_of shows
returns-in-WriteRange c = λ vs ws. let a = c.args in put_as (asked _ _ a.words.now a.contacts.now vs ws c.in-WriteRange.is ∙ ap (λ (x : ℕ). reply_frame a.sender.header a.sender.own (good ((letter_w ∷ x ∷ []) ++ []))) (sym c.name_letter-in-WriteRange.ensures)) c.acknowledge-in-WriteRange.ensures

pub returns-in-Fill : goal.returns-in-Fill
unfolding reply_of operation_of shows
returns-in-Fill c = λ vs ws. let a = c.args in put_as (asked _ _ a.words.now a.contacts.now vs ws c.in-Fill.is) c.acknowledge-in-Fill.ensures
