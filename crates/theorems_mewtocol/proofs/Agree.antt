-- The station hears the request that was written, answers it, and the reader takes its reply part by part. Assumes nothing.
use mathlib.Core.Path.{◌≡◌, refl, sym, ap, ap₂, ◌∙◌}
use mathlib.Core.List.{List, [], ◌∷◌, ◌++◌, map}
use mathlib.Core.Bool.{Bool, true, false}
use Prim.Native.Nat.{ℕ, ◌+◌, ◌*◌, ◌≤◌, ◌<◌}
use native.Mathlib.Omega.{arith}
use borrow.Author.Tests.{eq-eqb}
use lib.Dec.{eqb, leb}
use lib.ListN.{length, take, drop, get_or}
use Rattle.rules.specs.Choice.{between, all_between, first_not}
use Rattle.rules.specs.Characters.{bang, digit0, dollar, hash}
use Rattle.rules.specs.Given.{gives, refused}
use Rattle.rules.specs.Tests.{Test, ◌unless◌, first}
use Rattle.rules.proofs.Choose.{pick_yes, in-range}
use Rattle.rules.proofs.Tests.{first-passed, passed}
use Rattle.text_slices.proofs.First.{first-none}
use Rattle.text_rooms.specs.Room.{overwrite}
use Rattle.text_rooms.proofs.Overwrite.{overwrite-front}
use Rattle.text_digits.specs.Digits.{is_digit, or_place, digits_in}
use Rattle.text_digits.specs.declared.Number.{Number}
use Rattle.text_hex.specs.Hex.{hex_value, hex_byte, all_hex}
use Rattle.text_hex.proofs.Back.{hex-back}
use Rattle.table_addresses.specs.Areas.{word_in, contact_cell}
use Rattle.table_addresses.specs.Catalogue.{table_limit}
use Rattle.table_registers.specs.Operation as operation
use Rattle.table_registers.specs.declared.Verdict.{Verdict}
use Rattle.table_registers.specs.declared.Verdict.TheVariants.{Granted, Lacking, Unfit}
use Rattle.table_registers.specs.declared.Profile.{Profile}
use Rattle.table_registers.specs.Profile.{verdict}
use Rattle.station.specs.Site.{Site, site_of, Says, said, Done, done}
use Rattle.station.specs.Outcome.{replied, Outcome, silent, sent}
use Rattle.station.specs.Station.{call_tests, received, station}
use Rattle.station.specs.declared.Whom.TheVariants.{This}
use Rattle.station.proofs.Calls.{received-here}
use Rattle.mewtocol_frame.specs.Frame.{limits_in, longest_of_all, highest, good_shape, for_station, good_check, Framed, opening, sealed}
use Rattle.mewtocol_frame.specs.Text.{span, starts}
use Rattle.mewtocol_frame.specs.declared.Limits.{Limits}
use Rattle.mewtocol_frame.proofs.Sealed.{limits-in, sealed-station, sealed-header, sealed-mark, sealed-text, words_text-length}
use Rattle.mewtocol_requests.specs.Requests.{Request, read_contacts, write_contacts, read_range, write_range, fill, letters}
use Rattle.mewtocol_requests.specs.Reading.{Reading, request}
use Rattle.mewtocol_requests.specs.Hearing as hearing
use Rattle.mewtocol_requests.specs.Sound.{Sound}
use Rattle.mewtocol_requests.proofs.Sound.{asked-sound}
use Rattle.mewtocol_station.specs.Replies.{operation_of, reply_of, reply_frame}
use Rattle.mewtocol_frame.proofs.Sealed as forms
use Rattle.mewtocol_station.specs.Station.{whom_in, mewtocol, errors, reading_asks}
use Rattle.mewtocol_station.proofs.Frames.{reading-framed}
use Rattle.mewtocol_station.proofs.Texts.{contacts-length}
use Rattle.mewtocol_asking.specs.Asking.{Asking, asking, request_in, ask_text, can_ask}
use Rattle.mewtocol_asking.specs.declared.Ask.{Ask}
use Rattle.mewtocol_asking.proofs.Tests.{tests-are}
use Rattle.mewtocol_writer.specs.Writing.{ask_frame}
use Rattle.mewtocol_writer.proofs.ReadBack.{read_back}
use Rattle.mewtocol_writer.proofs.Frames.{request-framed}
use Rattle.mewtocol_writer.proofs.Statements.{frame-heard}
use Rattle.mewtocol_reader.specs.Replies as reply
use Rattle.mewtocol_reader.specs.Replies.{shows, data_size, first_wrong, error_in, data_in, reply_in, form_reply, read_frame, read}
use Rattle.theorems_mewtocol.specs.Pair.{InForm, call_on, shown_text, decided, told, EitherForm, Answers, Agree}
use Rattle.theorems_mewtocol.proofs.Data.{words-hex, run_length, contacts-data}
use Rattle.theorems_mewtocol.proofs.Held.{range-in}

-- ---- the data that a request calls for

-- as much as it calls for, and no character that may not stand there
abbrev Fits : Request → List ℕ → Type 0
Fits q t = (length t ≡ data_size q) × (first_wrong q t ≡ length t)

written-data : (p : Profile) (words us : List ℕ) (l : Limits) (q : Request) → Sound l q → decided (verdict p us) words q ≡ Granted → Fits q (shown_text q words)
unfolding data_size first_not operation_of operation.shows all_between all_hex
written-data p words us l (read_contacts cs) s granted =
    (contacts-length words cs, first-none (all_between digit0 (digit0 + 1)) (between digit0 (digit0 + 1)) (λ x xs. refl) (shown_text (read_contacts cs) words) (contacts-data words (map contact_cell cs)))
written-data p words us l (write_contacts ss) s granted = (refl, refl)
written-data p words us l (read_range a b e) s granted =
    let ws : List ℕ = take (span b e) (drop (word_in a b) words) in
    let inside = range-in p words us a b e s.ordered.range.ordered granted in (
      words_text-length ws ∙ ap (λ (n : ℕ). 4 * n) (run_length words (word_in a b) (span b e) inside),
      first-none all_hex (λ (x : ℕ). is_digit (hex_value x)) (λ x xs. refl) (shown_text (read_range a b e) words) (words-hex ws),
    )
written-data p words us l (write_range a b e ws) s granted = (refl, refl)
written-data p words us l (fill b e w) s granted = (refl, refl)

-- its letters stand first
two-start : (a b : ℕ) (t : List ℕ) → starts (a ∷ b ∷ []) (a ∷ b ∷ t) ≡ true
unfolding starts
two-start a b t = rw (eq-eqb a a refl, eq-eqb b b refl)

data-read : (a b : ℕ) (q : Request) (end : ℕ) (t : List ℕ) → letters q ≡ a ∷ b ∷ [] → Fits q t → data_in q end (letters q ++ t) ≡ shows t
unfolding data_in
data-read a b q end t e fits =
    rw e
    (pick_yes (starts (a ∷ b ∷ []) (a ∷ b ∷ t)) _ _ (two-start a b t)
    ∙ pick_yes (eqb (length t) (data_size q)) _ _ (eq-eqb _ _ fits.0)
    ∙ pick_yes (eqb (first_wrong q t) (length t)) _ _ (eq-eqb _ _ fits.1))

good-read : (q : Request) (end : ℕ) (t : List ℕ) → Fits q t → data_in q end (letters q ++ t) ≡ shows t
good-read (read_contacts cs) end t fits = data-read _ _ (read_contacts cs) end t refl fits
good-read (write_contacts ss) end t fits = data-read _ _ (write_contacts ss) end t refl fits
good-read (read_range a s e) end t fits = data-read _ _ (read_range a s e) end t refl fits
good-read (write_range a s e ws) end t fits = data-read _ _ (write_range a s e ws) end t refl fits
good-read (fill s e w) end t fits = data-read _ _ (fill s e w) end t refl fits

error-read : (end e : ℕ) → e < 256 → error_in end (hex_byte e) ≡ reply.error e
unfolding error_in digits_in
error-read end e h =
    ap (λ (n : Number). or_place n reply.error (λ p. reply.unasked (4 + p))) (hex-back 2 e [] (omega arith))

-- ---- a reply that is read

-- a frame with a form's header is taken for that form
abbrev TakenFor : Limits → Type 0
TakenFor l = (f : List ℕ) → get_or f 0 0 ≡ l.header → limits_in f ≡ l

-- a frame from the station that was asked, up to its mark
module _ (l : Limits) (taken : TakenFor l) (own mark : ℕ) (q : Request) (body : List ℕ) (h : own ≤ highest) (f : Framed l 9 (sealed (opening l.header own mark ++ body))) where
  abbrev whole : List ℕ
  whole = sealed (opening l.header own mark ++ body)

  read_as : read_frame l own q whole ≡ reply_in q (length whole) mark body
  unfolding read_frame form_reply
  read_as =
      let headed = sealed-header l.header own mark body in
      pick_yes (good_shape (limits_in whole) 9 whole) _ _ (ap (λ (form : Limits). good_shape form 9 whole) (taken whole headed) ∙ f.shape)
      ∙ pick_yes (good_check whole) _ _ f.check
      ∙ pick_yes (for_station own whole) _ _ (sealed-station l.header own mark body h)
      ∙ pick_yes (eqb (get_or whole 0 0) l.header) _ _ (eq-eqb _ _ headed)
      ∙ ap₂ (reply_in q (length whole)) (sealed-mark l.header own mark body) (sealed-text l.header own mark body)

-- by the verdict on it
module _ (l : Limits) (taken : TakenFor l) (own : ℕ) (words us : List ℕ) (p : Profile) (q : Request) (h : own ≤ highest) (s : Sound l q) where
  abbrev says : Verdict → Says
  says v = said errors (reply_of q (operation.shows (operation_of q) words)) v

  read-said : (v : Verdict) → decided (verdict p us) words q ≡ v → Framed l 9 (reply_frame l.header own (says v)) → read_frame l own q (reply_frame l.header own (says v)) ≡ told q words v
  unfolding said reply_frame reply_of reply_in
  read-said Granted e f = read_as l taken own dollar q (letters q ++ shown_text q words) h f ∙ good-read q _ (shown_text q words) (written-data p words us l q s e)
  read-said (Lacking i) e f = read_as l taken own bang q (hex_byte 0x66) h f ∙ error-read _ 0x66 (omega arith)
  read-said Unfit e f = read_as l taken own bang q (hex_byte 0x61) h f ∙ error-read _ 0x61 (omega arith)

-- ---- 1, 2 and 3

module _ (site : Site) (words room : List ℕ) where
  abbrev tests : List Test
  tests = call_tests highest longest_of_all site (length words) (length room)

  -- the station is 1 to 99
  ready-station : first refused tests (gives 0) ≡ gives 0 → between 1 highest site.own ≡ true
  ready-station e =
      let third : Bool = all_between 0 3 site.attributes in
      let second : Bool = eqb (length site.attributes) (length words) in
      let station : Test = 2 unless between 1 highest site.own in
      let size : Test = 3 unless leb longest_of_all (length room) in
      let one = passed 1 (leb (length words) table_limit) ((1 unless second) ∷ (1 unless third) ∷ station ∷ size ∷ []) 0 0 e in
      let two = passed 1 second ((1 unless third) ∷ station ∷ size ∷ []) 0 0 one.1 in
      let three = passed 1 third (station ∷ size ∷ []) 0 0 two.1 in
      (passed 2 (between 1 highest site.own) (size ∷ []) 0 0 three.1).0

-- a row of tests before a reply: where one is given, none failed
replies : (words room : List ℕ) (ts : List Test) (o : Outcome) (n : ℕ) → (first (silent words room) ts o).result ≡ replied n → first refused ts (gives 0) ≡ gives 0
replies words room [] o n e = refl
replies words room ((k unless true) ∷ ts) o n e = replies words room ts o n e
replies words room ((k unless false) ∷ ts) o n e = let z : ◌≡◌ {A = ℕ} 0 1 = cc in absurd (omega arith)

-- ---- both sides

module _ (l : Limits) (site : Site) (words room : List ℕ) (a : Ask) (cs vs ws : List ℕ) (f : InForm l (asking a cs vs ws)) where
  abbrev asked : Asking
  asked = asking a cs vs ws

  abbrev q : Request
  q = request_in asked

  abbrev frame : List ℕ
  frame = ask_frame l.header site.own asked

  -- what the station does, and the message that it sends
  abbrev left : Done
  left = done errors site.judge words (reading_asks (request q))

  abbrev message : List ℕ
  message = reply_frame l.header site.own left.says

  sound : Sound l q
  sound = asked-sound l (ask_text asked) q (read_back l a cs vs ws f.can)

  shaped : good_shape l 8 frame ≡ true
  shaped = (request-framed l f.roomy site.own asked f.can).shape

  -- the frame is for this station
  mine : site.own ≤ highest → whom_in site.own frame ≡ This
  unfolding whom_in
  mine h = pick_yes (for_station site.own frame) _ _ (frame-heard l f.roomy site.own a cs vs ws h f.can).0

  -- an outcome by the form and by what the frame asks
  abbrev out : Limits → Reading → Outcome
  out form r = let d : Done = done errors site.judge words (reading_asks r) in sent room (reply_frame form.header site.own d.says) d.words

  -- it is taken for its form
  taken : limits_in frame ≡ l
  unfolding ask_frame
  taken = f.taken-for frame (sealed-header l.header site.own hash (ask_text asked))

  answered : site.own ≤ highest → received mewtocol site words frame room ≡ sent room message left.words
  answered h =
      received-here mewtocol site words frame room (pick_yes (good_shape (limits_in frame) 8 frame) _ _ (ap (λ (form : Limits). good_shape form 8 frame) taken ∙ shaped)) (mine h)
      ∙ ap₂ out taken (ap (λ (form : Limits). hearing.read_frame form frame) taken ∙ (frame-heard l f.roomy site.own a cs vs ws h f.can).1)

  -- the call, where 1, 2 and 3 are not given
  called : first refused (tests site words room) (gives 0) ≡ gives 0 → call_on l site words room asked ≡ sent room message left.words
  unfolding station
  called e =
      first-passed (tests site words room) 0 0 e (silent words room) (received mewtocol site words frame room)
      ∙ answered (in-range 1 highest site.own (ready-station site words room e)).1

pub either-form : EitherForm
either-form form a can = record { roomy = forms.roomy form; taken-for = limits-in form; can = can }

pub answers : Answers
answers l site words room a cs vs ws f ready = (
  length (message l site words room a cs vs ws f),
  ap (λ (o : Outcome). o.result) (called l site words room a cs vs ws f ready),
)

-- its message, read
module _ (l : Limits) (attributes : List ℕ) (p : Profile) (own : ℕ) (words room : List ℕ) (a : Ask) (cs vs ws : List ℕ) (f : InForm l (asking a cs vs ws)) where
  abbrev here : Site
  here = site_of attributes p own

  message-read : between 1 highest own ≡ true → read l own (asking a cs vs ws) (message l here words room a cs vs ws f) ≡ told (request_in (asking a cs vs ws)) words (decided (verdict p attributes) words (request_in (asking a cs vs ws)))
  unfolding read done
  message-read t =
      let h = (in-range 1 highest own t).1 in
      let r : Request = request_in (asking a cs vs ws) in
      let s = sound l here words room a cs vs ws f in
      pick_yes (between 1 highest own) _ _ t
      ∙ tests-are l (asking a cs vs ws) reply.refused (read_frame l own r (message l here words room a cs vs ws f))
      ∙ pick_yes (can_ask l (asking a cs vs ws)) _ _ f.can
      ∙ read-said l f.taken-for own words attributes p r h s (decided (verdict p attributes) words r) refl (reading-framed l f.roomy own (verdict p attributes) words (request r) s)

pub agree : Agree
unfolding station
agree l attributes p own words room a cs vs ws n f e =
    let site : Site = site_of attributes p own in
    let ready = replies words room (tests site words room) (received mewtocol site words (ask_frame l.header site.own (asking a cs vs ws)) room) n e in
    let m = message l site words room a cs vs ws f in
    let is = called l site words room a cs vs ws f ready in
    let size : replied (length m) ≡ replied n = sym (ap (λ (o : Outcome). o.result) is) ∙ e in
    let long : length m ≡ n = cc in
    ap (λ (o : Outcome). read l site.own (asking a cs vs ws) (take n o.room)) is
    ∙ ap (read l site.own (asking a cs vs ws)) (ap (λ (k : ℕ). take k (overwrite room 0 m)) (sym long) ∙ overwrite-front room m)
    ∙ message-read l attributes p own words room a cs vs ws f (ready-station site words room ready)
