-- The statements of specs/Calls, what every reply is that the promise of a station allows, and what a refusal leaves. Assumes nothing.
use mathlib.Core.Bool.{true, false}
use mathlib.Core.List.{List, [], ◌∷◌}
use mathlib.Core.Path.{◌≡◌, refl, sym, ap, ap₂, subst, ◌∙◌}
use Prim.Native.Nat.{ℕ}
use native.Mathlib.Nat.{zero-add}
use native.Mathlib.Omega.{arith}
use lib.ListN.{length, take, drop}
use lib.Seq.{drop_at}
use Rattle.rules.specs.declared.Refusal.{Refusal}
use Rattle.rules.specs.Tests.{Test, ◌unless◌, first}
use Rattle.text_rooms.specs.Room.{overwrite}
use Rattle.text_rooms.proofs.Overwrite.{overwrite-front}
use Rattle.station.specs.Site.{Site, Done}
use Rattle.station.specs.Outcome as outcome
use Rattle.station.specs.Outcome.{Outcome, silent, sent, Is}
use Rattle.station.specs.Station.{Format, call_tests, frame_tests, leaves, answer, received, station}
use Rattle.station.specs.declared.Whom.{Whom}
use Rattle.station.specs.declared.Whom.TheVariants.{This, All, Other}
use Rattle.station.specs.declared.Answer.TheVariants.{Reply, CarriedOut}
use Rattle.station.proofs.Held as stations
use Rattle.modbus_counters.specs.declared.Counters.{Counters}
use Rattle.modbus_line.specs.Framing.{modbus}
use Rattle.modbus_line.specs.Calls.{shown}
use Rattle.modbus_rtu.specs.Rtu.{body_of, rtu}
use Rattle.modbus_ascii.specs.Ascii.{bytes_of, body_in, ascii}
use Rattle.theorems_modbus.specs.Statements.{GoodRtu, GoodAscii}
use Rattle.theorems_modbus.proofs.Replies.{rtu-replies, ascii-replies}
use Rattle.mewtocol_frame.specs.Frame.{form_in, limits_in, Framed}
use Rattle.mewtocol_frame.proofs.Sealed.{roomy}
use Rattle.mewtocol_requests.specs.Hearing.{read_frame}
use Rattle.mewtocol_requests.proofs.Sound.{frame-answerable}
use Rattle.mewtocol_station.specs.Station.{mewtocol}
use Rattle.mewtocol_writer.specs.Writing as writing
use Rattle.mewtocol_writer.specs.declared.Written.TheVariants as request
use Rattle.laser.specs.Frame as laser
use Rattle.laser.specs.declared.Written.TheVariants as frame
use Rattle.mewtocol_station.proofs.Frames.{reading-framed}
use Rattle.catalogue_files.specs.Refusals as files
use Rattle.catalogue_files.specs.declared.Filled.TheVariants as filled
use Rattle.claims.specs.Calls.{wrote, head_wrote, filled_with, Promised, Replied}
use Rattle.claims.specs.RightAnswers.{StationReplies, RefusalsLeave}
use Rattle.claims.proofs.Numbered.{host-numbers, laser-numbers, file-numbers}

pub promised : Promised
promised = record {
  station = λ o a words room p i. record { result = p.answer-is i; words = p.words-is i; room = p.room-is i };
  modbus-station = λ o c r words room p.
      let i = p.outcome in
      ((λ j. record { result = i.answer-is j; words = i.words-is j; room = i.room-is j }), p.counters-are);
  writer = λ o w room p i. record { number = p.answer-is i; room = p.room-is i };
  laser-writer = λ o w room p i. record { number = p.answer-is i; room = p.room-is i };
  filling = λ o r attributes p i. record { number = p.number_is i; bytes = p.bytes-is i };
}

-- ---- replies

-- where a row of silent tests gives a length, none of them failed
passed-all : (words room : List ℕ) (ts : List Test) (o : Outcome) (n : ℕ) → outcome.replied n ≡ (first (silent words room) ts o).result → first (silent words room) ts o ≡ o
passed-all words room [] o n e = refl
passed-all words room ((k unless true) ∷ ts) o n e = passed-all words room ts o n e
passed-all words room ((k unless false) ∷ ts) o n e = let z : ◌≡◌ {A = ℕ} 0 1 = cc in absurd (omega arith)

-- a reply is not for all
sent-out : (whom : Whom) (room message words : List ℕ) (n : ℕ) → outcome.replied n ≡ (answer whom room message words).result → answer whom room message words ≡ sent room message words
sent-out This room message words n e = refl
sent-out All room message words n e = let z : ◌≡◌ {A = ℕ} 0 1 = cc in absurd (omega arith)
sent-out Other room message words n e = refl

-- what lies behind a message in its room
overwrite-later : (room message : List ℕ) → drop (length message) (overwrite room 0 message) ≡ drop (length message) room
unfolding overwrite
overwrite-later room message = drop_at message _ (length message) refl ∙ ap (λ (k : ℕ). drop k room) (zero-add (length message))

module _ (m : Format) (site : Site) (words frame room : List ℕ) (n : ℕ) (words' room' : List ℕ) (p : Is (station m site words frame room) (Reply n) words' room') where
  abbrev d : Done
  d = leaves m site words frame

  abbrev message : List ℕ
  message = m.reply site.own frame d.says

  -- the call was answered
  sends : station m site words frame room ≡ sent room message d.words
  unfolding station received
  sends =
      let calls = call_tests m.highest m.room site (length words) (length room) in
      let frames = frame_tests m site words frame in
      let whom = m.whom site.own frame in
      let outer = passed-all words room calls (received m site words frame room) n p.answer-is in
      let inner = passed-all words room frames (answer whom room message d.words) n (p.answer-is ∙ ap (λ (o : Outcome). o.result) outer) in
      outer ∙ inner ∙ sent-out whom room message d.words n (p.answer-is ∙ ap (λ (o : Outcome). o.result) (outer ∙ inner))

  replied : Replied message d.words room n words' room'
  replied =
      let size : outcome.replied n ≡ outcome.replied (length message) = p.answer-is ∙ ap (λ (o : Outcome). o.result) sends in
      let same : n ≡ length message = cc in
      let after : room' ≡ overwrite room 0 message = p.room-is ∙ ap (λ (o : Outcome). o.room) sends in
      record {
        front = ap₂ take same after ∙ overwrite-front room message;
        later = ap₂ drop same after ∙ overwrite-later room message ∙ ap (λ (k : ℕ). drop k room) (sym same);
        words_are = p.words-is ∙ ap (λ (o : Outcome). o.words) sends;
      }

pub station-replies : (c : Counters) (site : Site) (words frame room : List ℕ) (n : ℕ) (words' room' : List ℕ) → StationReplies c site words frame room n words' room'
station-replies c site words frame room n words' room' = record {
  rtu = λ p.
      let heard : Counters = shown rtu site.own frame c in
      let r = replied (modbus rtu heard) site words frame room n words' room' p in
      (r, subst GoodRtu (sym r.front) (rtu-replies heard site.own site.judge words (body_of frame)));
  ascii = λ p.
      let heard : Counters = shown ascii site.own frame c in
      let r = replied (modbus ascii heard) site words frame room n words' room' p in
      (r, subst (GoodAscii _) (sym r.front) (ascii-replies heard site.own site.judge words (body_in (bytes_of frame))));
  mewtocol = λ p.
      let r = replied mewtocol site words frame room n words' room' p in
      (r, subst (Framed (limits_in frame) 9) (sym r.front) (reading-framed (limits_in frame) (roomy (form_in frame)) site.own site.judge words (read_frame (limits_in frame) frame) (frame-answerable (limits_in frame) frame)));
}

-- ---- refusals

pub refusals-leave : (r : Refusal) → RefusalsLeave r
refusals-leave r = record {
  station = λ m site words frame room words' room' p.
      let e = stations.refusals-leave m site words frame room r.0 (sym p.answer-is) in
      (p.words-is ∙ e.0, p.room-is ∙ e.1);
  writer = λ form to a room room' p.
      let e = (host-numbers form to a room []).writer in
      let call = wrote (request.Refused r) room' in
      let is = promised.writer _ (request.Refused r) room' p in
      ap (λ (o : writing.Outcome). o.room) (e.each call r.0 is (e.only call r.0 is refl));
  laser-writer = λ a b bytes room room' p.
      let e = (laser-numbers [] room bytes a b).writer in
      let call = head_wrote (frame.Refused r) room' in
      let is = promised.laser-writer _ (frame.Refused r) room' p in
      ap (λ (o : laser.Outcome). o.room) (e.each call r.0 is (e.only call r.0 is refl));
  filling = λ file asked lent lent' p.
      let e = file-numbers file asked lent in
      let call = filled_with (filled.Refused r) lent' in
      let is = promised.filling _ (filled.Refused r) lent' p in
      ap (λ (o : files.Outcome). o.bytes) (e.each call r.0 is (e.only call r.0 is refl));
}

pub carried-leaves : (m : Format) (site : Site) (words frame room words' room' : List ℕ) → Is (station m site words frame room) CarriedOut words' room' → room' ≡ room
carried-leaves m site words frame room words' room' p = p.room-is ∙ stations.carried-leaves m site words frame room (sym p.answer-is)
