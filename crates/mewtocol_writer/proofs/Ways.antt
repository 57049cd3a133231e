-- The writer's ways, how long a request is, and its parts in a room. Assumes nothing.
use mathlib.Core.Path.{◌≡◌, refl, sym, ap, ◌∙◌}
use mathlib.Core.List.{List, [], ◌∷◌, ◌++◌}
use mathlib.Core.Bool.{Bool, true, false}
use Prim.Native.Nat.{ℕ, ◌+◌, ◌*◌, ◌≤◌}
use native.Mathlib.Nat.{zero-add, add_assoc}
use native.Mathlib.Omega.{arith}
use borrow.Author.Tests.{leb-true, ltb-true, eqb-true}
use lib.Dec.{eqb, leb, ltb, lit≤}
use lib.ListN.{length, take, length-append}
use lib.Seq.{get_or-drop}
use Rattle.rules.specs.Choice.{pick, both, between}
use Rattle.rules.specs.Characters.{CR, hash}
use Rattle.rules.specs.Given.{gives}
use Rattle.rules.proofs.Choose.{both_left, both_right, in-range, pick_yes}
use Rattle.text_rooms.specs.Room.{overwrite}
use Rattle.text_rooms.proofs.Overwrite.{overwrite-join}
use Rattle.text_digits.specs.Digits.{digits_in}
use Rattle.checks_xor.specs.Xor.{closing}
use Rattle.mewtocol_frame.specs.Frame.{Roomy, highest, opening}
use Rattle.mewtocol_frame.specs.Text.{span}
use Rattle.mewtocol_frame.specs.declared.Limits.{Limits}
use Rattle.mewtocol_frame.proofs.Sealed.{sealed-put}
use Rattle.mewtocol_commands.specs.Fields.{room}
use Rattle.mewtocol_commands.specs.Rows.{contact, setting, times, widths}
use Rattle.mewtocol_requests.specs.Requests.{Request}
use Rattle.mewtocol_commands.specs.Commands.{entry, Layout, once, counted, layout, fields_of}
use Rattle.mewtocol_commands.specs.declared.Command.{Command}
use Rattle.mewtocol_commands.specs.declared.Command.TheVariants.{RCS, RCP, RCC, WCS, WCP, WCC, RD, WD, SD}
use Rattle.mewtocol_commands.specs.declared.Field.TheVariants.{Relay, Register, Word}
use Rattle.mewtocol_commands.proofs.OverRows.{times-widths}
use Rattle.mewtocol_asking.specs.Asking.{Asking, ◌for◌, listed_by, numbers_of, count_text, filled, ask_text, fit, right_count, start_of, end_of, can_ask}
use Rattle.mewtocol_asking.proofs.Tests.{tests-are}
use Rattle.mewtocol_writer.specs.Writing.{left, sent, ask_frame, write, Is, Puts, body_text, Countable, Askable}
use Rattle.mewtocol_writer.specs.declared.Written.TheVariants.{Frame, Refused}
use Rattle.mewtocol_writer.proofs.Filled.{filled-length}

-- ---- the ways

module _ (l : Limits) (to : ℕ) (a : Asking) (place : List ℕ) where
  after-room : between 1 highest to ≡ true → leb l.longest (length place) ≡ true → write l to a place ≡ pick (can_ask l a) (sent (ask_frame l.header to a) place) (left 14 place)
  unfolding write
  after-room s h =
      pick_yes (between 1 highest to) _ _ s ∙ pick_yes (leb l.longest (length place)) _ _ h
      ∙ tests-are l a (λ (k : ℕ). left k place) (sent (ask_frame l.header to a) place)

  pub refused-station : between 1 highest to ≡ false → Is (write l to a place) (Refused (record { 0 = 2 })) place
  unfolding write
  refused-station s = record { answer-is = rw s; room-is = rw s }

  pub refused-room : between 1 highest to ≡ true → leb l.longest (length place) ≡ false → Is (write l to a place) (Refused (record { 0 = 3 })) place
  unfolding write
  refused-room s h = record { answer-is = rw (s, h); room-is = rw (s, h) }

  pub refused-request : between 1 highest to ≡ true → leb l.longest (length place) ≡ true → can_ask l a ≡ false → Is (write l to a place) (Refused (record { 0 = 14 })) place
  refused-request s h c = record { answer-is = rw (after-room s h, c); room-is = rw (after-room s h, c) }

  pub written : (n : ℕ) (room' : List ℕ) → between 1 highest to ≡ true → leb l.longest (length place) ≡ true → can_ask l a ≡ true
      → Puts 0 (ask_frame l.header to a) place n room' → Is (write l to a place) (Frame n) room'
  written n room' s h c p = record {
    answer-is = rw (after-room s h, c) (ap gives (p.after ∙ zero-add _));
    room-is = rw (after-room s h, c) p.room;
  }

-- ---- lengths

pub name-short : (c : Command) → length (entry c).name ≤ 3
name-short RCS = omega arith
name-short RCP = omega arith
name-short RCC = omega arith
name-short WCS = omega arith
name-short WCP = omega arith
name-short WCC = omega arith
name-short RD = omega arith
name-short WD = omega arith
name-short SD = omega arith

pub four-each : (k : ℕ) → widths (times k (Word ∷ [])) ≡ 4 * k
unfolding widths
four-each k = times-widths k (Word ∷ [])

body-length : (y : Layout) (n : ℕ) (ns : List ℕ) → length (body_text y n ns) ≡ length (count_text y n) + widths (fields_of y n)
body-length y n ns = length-append (count_text y n) (filled (fields_of y n) ns) ∙ ap (λ (m : ℕ). length (count_text y n) + m) (filled-length (fields_of y n) ns)

pub text-length : (c : Command) (q : Request) → length (ask_text (c for q)) ≡ length (entry c).name + length (body_text (layout (entry c).kind) (listed_by q) (numbers_of q))
unfolding ask_text
text-length c q =
    let y = layout (entry c).kind in
    length-append ((entry c).name ++ count_text y (listed_by q)) (filled (fields_of y (listed_by q)) (numbers_of q))
    ∙ ap (λ (m : ℕ). m + length (filled (fields_of y (listed_by q)) (numbers_of q))) (length-append (entry c).name (count_text y (listed_by q)))
    ∙ add_assoc (length (entry c).name) (length (count_text y (listed_by q))) (length (filled (fields_of y (listed_by q)) (numbers_of q)))
    ∙ ap (λ (m : ℕ). length (entry c).name + m) (sym (length-append (count_text y (listed_by q)) (filled (fields_of y (listed_by q)) (numbers_of q))))

-- what can be asked has so many contacts or words
module _ (l : Limits) (roomy : Roomy l) where
  few_words : (n s e : ℕ) → n ≡ span s e → both (leb s e) (leb (span s e) l.writes) ≡ true → n ≤ l.writes
  few_words n s e p h = omega (arith, p, leb-true (span s e) l.writes (both_right (leb s e) _ h))

  body-short : (c : Command) (q : Request) → can_ask l (c for q) ≡ true → length (entry c).name + length (body_text (layout (entry c).kind) (listed_by q) (numbers_of q)) + 7 ≤ l.longest
  unfolding can_ask widths
  body-short RCS q can = omega (arith, body-length (once contact) (listed_by q) (numbers_of q), roomy.contacts)
  body-short RCP q can =
      omega (arith, body-length (counted contact) (listed_by q) (numbers_of q), times-widths (listed_by q) contact, (in-range 1 8 (listed_by q) (both_left _ _ can)).1, roomy.contacts)
  body-short RCC q can = omega (arith, body-length (layout (entry RCC).kind) (listed_by q) (numbers_of q), roomy.contacts)
  body-short WCS q can = omega (arith, body-length (once setting) (listed_by q) (numbers_of q), roomy.contacts)
  body-short WCP q can =
      omega (arith, body-length (counted setting) (listed_by q) (numbers_of q), times-widths (listed_by q) setting, (in-range 1 8 (listed_by q) (both_left _ _ can)).1, roomy.contacts)
  body-short WCC q can =
      let count = eqb-true (listed_by q) (span (start_of q) (end_of q)) (both_left _ _ can) in
      let few = few_words (listed_by q) (start_of q) (end_of q) count (both_right (fit (fields_of (layout (entry WCC).kind) (listed_by q)) (numbers_of q)) _ (both_right (right_count (layout (entry WCC).kind) (listed_by q) (start_of q) (end_of q)) _ can)) in
      omega (arith, body-length (layout (entry WCC).kind) (listed_by q) (numbers_of q), four-each (listed_by q), few, roomy.writes)
  body-short RD q can = omega (arith, body-length (layout (entry RD).kind) (listed_by q) (numbers_of q), roomy.contacts)
  body-short WD q can =
      let count = eqb-true (listed_by q) (span (start_of q) (end_of q)) (both_left _ _ can) in
      let few = few_words (listed_by q) (start_of q) (end_of q) count (both_right (fit (fields_of (layout (entry WD).kind) (listed_by q)) (numbers_of q)) _ (both_right (right_count (layout (entry WD).kind) (listed_by q) (start_of q) (end_of q)) _ can)) in
      omega (arith, body-length (layout (entry WD).kind) (listed_by q) (numbers_of q), four-each (listed_by q), few, roomy.writes)
  body-short SD q can = omega (arith, body-length (layout (entry SD).kind) (listed_by q) (numbers_of q), roomy.contacts)

  pub text-short : (a : Asking) → can_ask l a ≡ true → length (ask_text a) + 7 ≤ l.longest
  text-short (c for q) can = omega (arith, text-length c q, body-short c q can)

-- ---- parts in a room

pub puts-join : {at n r : ℕ} {s t room room₁ room₂ : List ℕ} → at ≤ length room → Puts at s room n room₁ → Puts n t room₁ r room₂ → Puts at (s ++ t) room r room₂
puts-join {at} {n} {r} {s} {t} {room} {room₁} {room₂} h p q = record {
  after = omega (arith, p.after, q.after, length-append s t);
  room = q.room ∙ ap (λ (l : List ℕ). overwrite l n t) p.room ∙ overwrite-join room s t at n h p.after;
}

pub puts-frame : (header to : ℕ) (a : Asking) {n r : ℕ} {room room₁ room₂ room₃ : List ℕ} → 4 ≤ length room
    → room₁ ≡ overwrite room 0 (opening header to hash) → Puts 4 (ask_text a) room₁ n room₂
    → (r ≡ n + 3) × (room₃ ≡ overwrite room₂ n (closing (take n room₂) CR)) → Puts 0 (ask_frame header to a) room r room₃
unfolding ask_frame opening digits_in
puts-frame header to a {room = room} long opened text closed =
    let front = puts-join {s = opening header to hash} (omega arith) (record { after = refl; room = opened }) text in
    let s = sealed-put room (opening header to hash ++ ask_text a) front.room (front.after ∙ zero-add _) closed in
    record { after = s.0 ∙ sym (zero-add _); room = s.1 }

-- a word for each of a range whose end has room
few-words-of : (m n s e f : ℕ) (b r : Bool) → m ≤ 100000 → f ≡ e → both (eqb n (span s e)) (both (both (ltb s m) (both (ltb f m) b)) r) ≡ true → n ≤ 4294967296
few-words-of m n s e f b r h p can =
    let count = eqb-true n (span s e) (both_left _ _ can) in
    let fits = both_left _ _ (both_right (eqb n (span s e)) _ can) in
    let end = ltb-true f m (both_left _ _ (both_right (ltb s m) _ fits)) in
    omega arith

-- what can be asked can be written
countable : (l : Limits) (c : Command) (q : Request) → can_ask l (c for q) ≡ true → Countable (layout (entry c).kind) (listed_by q)
unfolding can_ask fit
countable l RCS q can = tt
countable l RCP q can = (in-range 1 8 (listed_by q) (both_left _ _ can)).1
countable l RCC q can = tt
countable l WCS q can = tt
countable l WCP q can = (in-range 1 8 (listed_by q) (both_left _ _ can)).1
countable l WCC q can = few-words-of (room Relay) (listed_by q) (start_of q) (end_of q) _ _ _ (lit≤ tt) (get_or-drop 1 (numbers_of q) 0 0) can
countable l RD q can = tt
countable l WD q can = few-words-of (room Register) (listed_by q) (start_of q) (end_of q) _ _ _ (lit≤ tt) (get_or-drop 1 (numbers_of q) 0 0) can
countable l SD q can = tt

pub askable : (l : Limits) (a : Asking) → can_ask l a ≡ true → Askable a
unfolding can_ask
askable l (c for q) can = (
  countable l c q can,
  both_left _ _ (both_right (right_count (layout (entry c).kind) (listed_by q) (start_of q) (end_of q)) _ can),
)
