-- The statements of specs/AnyInput: most definitions are their tests as they stand. Assumes nothing.
use mathlib.Core.Bool.{Bool, true, false, false≢true}
use mathlib.Core.List.{List, [], ◌∷◌}
use mathlib.Core.Logic.{inl, inr}
use mathlib.Core.Path.{◌≡◌, refl, sym, ap, ◌∙◌}
use Prim.Native.Nat.{ℕ, ◌+◌, ◌-◌, ◌≤◌, zero-le}
use native.Mathlib.Omega.{arith}
use borrow.Author.Tests.{leb-true, le-leb}
use lib.Dec.{eqb, leb}
use lib.ListN.{length, drop, get_or}
use Rattle.rules.specs.Choice.{pick, between}
use Rattle.rules.specs.Characters.{bang, dollar}
use Rattle.rules.specs.Given.{Given, gives, refused}
use Rattle.rules.specs.Tests.{Test, ◌unless◌, first}
use Rattle.rules.proofs.Choose.{pick_yes, pick_all}
use Rattle.rules.proofs.Tests.{first-append}
use Rattle.text_rooms.specs.Room.{overwrite}
use Rattle.text_digits.specs.Digits.{with_number, or_place, is_value, decimal}
use Rattle.text_digits.specs.declared.Number.{Number}
use Rattle.text_digits.specs.declared.Number.TheVariants.{Value, NoDigitAt}
use Rattle.text_hex.specs.Hex.{hex}
use Rattle.table_addresses.specs.Catalogue.{moved, register_address, register_number, coil_address, coil_number}
use Rattle.station.specs.Site.{Site, is_good, Done}
use Rattle.station.specs.Station.{call_tests, leaves, answer, received, station}
use Rattle.station.specs.declared.Whom.{Whom}
use Rattle.station.specs.declared.Whom.TheVariants.{This, All, Other}
use Rattle.modbus_body.specs.Body.{reply_to}
use Rattle.modbus_counters.specs.Counters.{Fate, stopped, came, counted}
use Rattle.modbus_counters.specs.Diagnosis.{after}
use Rattle.modbus_counters.specs.declared.Counters.{Counters}
use Rattle.modbus_line.specs.Framing.{answered, Framing, whom_at, modbus}
use Rattle.modbus_line.specs.Calls.{fate, shown, left, counters_after}
use Rattle.modbus_rtu.specs.Rtu.{rtu, body_of, rtu_frame}
use Rattle.modbus_ascii.specs.Ascii.{ascii, bytes_of, body_in, with_lrc, text_frame}
use Rattle.mewtocol_station.specs.Replies.{reply_frame}
use Rattle.mewtocol_station.specs.Station.{mewtocol, whom_in}
use Rattle.mewtocol_frame.specs.declared.Form.{Form}
use Rattle.mewtocol_frame.specs.declared.Limits.{Limits}
use Rattle.mewtocol_frame.specs.Frame.{limits_of, limits_in, good_shape, good_check, for_station, text_of}
use Rattle.mewtocol_frame.specs.Text.{starts}
use Rattle.mewtocol_requests.specs.Requests.{Request, letters}
use Rattle.mewtocol_requests.specs.Hearing.{read_frame}
use Rattle.mewtocol_asking.specs.Asking.{Asking, request_in, ask_tests}
use Rattle.mewtocol_writer.specs.Writing as writing
use Rattle.mewtocol_reader.specs.Replies as replies
use Rattle.laser.specs.Frame as laser
use Rattle.laser.proofs.WrittenFrames.{front_length, frame-length}
use Rattle.catalogue_files.specs.Refusals as files
use Rattle.host_pairs.specs.Pairs as pairs
use Rattle.claims.specs.Calls.{number_of, read_number, read_place, distance_number}
use Rattle.claims.specs.AnyInput.{Fails, Exactly, place_in, reply_places, StationNumbers, CounterNumbers, HostNumbers, LaserNumbers, ConversionNumbers, PairNumbers, FileNumbers}

-- ---- numbers in order

unlike : (v k : ℕ) {A : Type 0} → gives v ≡ refused k → A
unlike v k e = let z : ◌≡◌ {A = ℕ} 0 1 = cc in absurd (omega arith)

module _ {A : Type 0} (number : A → Given) (refusal : ℕ → A) (answer : A) where
  there : ((k : ℕ) → number (refusal k) ≡ refused k) → (v : ℕ) → number answer ≡ gives v → (ts : List Test) (k : ℕ) → number (first refusal ts answer) ≡ refused k → Fails k ts
  there refuses v answers [] k e = unlike v k (sym answers ∙ e)
  there refuses v answers ((j unless true) ∷ ts) k e = inr (refl, there refuses v answers ts k e)
  there refuses v answers ((j unless false) ∷ ts) k e = let w : refused j ≡ refused k = sym (refuses j) ∙ e in inl (refl, cc)

  back : (ts : List Test) (k : ℕ) → Fails k ts → first refusal ts answer ≡ refusal k
  back [] k f = absurd f
  back ((j unless true) ∷ ts) k (inl f) = absurd (false≢true (sym f.0))
  back ((j unless true) ∷ ts) k (inr f) = back ts k f.1
  back ((j unless false) ∷ ts) k (inl f) = ap refusal f.1
  back ((j unless false) ∷ ts) k (inr f) = absurd (false≢true f.0)

-- where the definition is a row of tests, a refusal tells its number, and the answer is no refusal
exactly : {A : Type 0} {number : A → Given} {refusal : ℕ → A} {ts : List Test} {answer definition : A}
    → definition ≡ first refusal ts answer → ((k : ℕ) → number (refusal k) ≡ refused k) → (v : ℕ) × (number answer ≡ gives v) → Exactly number refusal ts answer definition
exactly {number = number} {refusal} {ts} {answer} is refuses answers = record {
  is = is;
  only = λ call k e n. there number refusal answer refuses answers.0 answers.1 ts k (sym (ap number (e ∙ is)) ∙ n);
  each = λ call k e f. e ∙ is ∙ back number refusal answer ts k f;
}

-- ---- the stations, by definition

-- neither a reply nor what was carried out is a refusal
answer-number : (whom : Whom) (room message words : List ℕ) → (v : ℕ) × (number_of (answer whom room message words) ≡ gives v)
answer-number This room message words = (_, refl)
answer-number All room message words = (_, refl)
answer-number Other room message words = (_, refl)

pub station-numbers : (c : Counters) (site : Site) (words frame room : List ℕ) → StationNumbers c site words frame room
unfolding station received read_frame
station-numbers c site words frame room = record {
  rtu = let d : Done = leaves (modbus rtu (shown rtu site.own frame c)) site words frame in
      exactly refl (λ k. refl) (answer-number (whom_at (get_or frame 0 0) site.own) room (rtu_frame site.own (reply_to (body_of frame) d.says)) d.words);
  ascii = let d : Done = leaves (modbus ascii (shown ascii site.own frame c)) site words frame in
      exactly refl (λ k. refl)
      (answer-number (whom_at (get_or (bytes_of frame) 0 0) site.own) room (text_frame (with_lrc site.own (reply_to (body_in (bytes_of frame)) d.says))) d.words);
  mewtocol = let d : Done = leaves mewtocol site words frame in
      exactly refl (λ k. refl) (answer-number (whom_in site.own frame) room (reply_frame (limits_in frame).header site.own d.says) d.words);
}

-- ---- the counters

-- what stopped a frame counts, or whom it is for
counted-by : (shape check : Bool) (whom : Whom) (c : Counters) (good : Counters → Bool) (b : List ℕ)
    → let ts : List Test = (10 unless shape) ∷ (11 unless check) ∷ [] in let f : Fate = first stopped ts (came whom) in
    after f (good (counted f c)) b (counted f c) ≡ first (λ k. counted (stopped k) c) ts (after (came whom) (good (counted (came whom) c)) b (counted (came whom) c))
unfolding after
counted-by true true whom c good b = refl
counted-by true false whom c good b = refl
counted-by false check whom c good b = refl

pub counter-numbers : (m : Framing) (c : Counters) (site : Site) (words frame room : List ℕ) → CounterNumbers m c site words frame room
unfolding counters_after left fate counted
counter-numbers m c site words frame room =
    ap (λ (x : Counters). first (λ k. c) (call_tests 247 513 site (length words) (length room)) x)
    (counted-by (m.shape frame) (m.check frame) (whom_at (m.to frame) site.own) c (λ heard. is_good (answered heard site.judge words (m.body frame)).says) (m.body frame))

-- ---- the MEWTOCOL host

-- a number of a row is no place, and a place no number of a row
module _ (q : Request) (end mark : ℕ) (t : List ℕ) where
  abbrev Unnumbered : replies.Read → Type 0
  Unnumbered r = (v : ℕ) × (read_number r ≡ gives v)

  error-unnumbered : (m : Number) → Unnumbered (or_place m replies.error (λ p. replies.unasked (4 + p)))
  error-unnumbered (Value e) = (_, refl)
  error-unnumbered (NoDigitAt p) = (_, refl)

  reply-unnumbered : Unnumbered (replies.reply_in q end mark t)
  unfolding replies.reply_in replies.error_in replies.data_in
  reply-unnumbered =
      let d : List ℕ = drop 2 t in
      pick_all Unnumbered (eqb mark bang) _ _
      (λ _. pick_all Unnumbered (eqb (length t) 2) _ _ (λ _. error-unnumbered (hex 2 t)) (λ _. (_, refl)))
      (λ _. pick_all Unnumbered (eqb mark dollar) _ _
      (λ _. pick_all Unnumbered (starts (letters q) t) _ _
      (λ _. pick_all Unnumbered (eqb (length d) (replies.data_size q)) _ _
      (λ _. pick_all Unnumbered (eqb (replies.first_wrong q d) (length d)) _ _ (λ _. (_, refl)) (λ _. (_, refl)))
      (λ _. (_, refl)))
      (λ _. (_, refl)))
      (λ _. (_, refl)))

  -- what follows the station's digits, as a row of tests
  reply-places : replies.reply_in q end mark t
      ≡ first replies.unasked (reply_places q end mark t) (pick (eqb mark bang) (replies.error (with_number (hex 2 t) (λ e. e) 0)) (replies.shows (drop 2 t)))
  unfolding replies.reply_in replies.error_in replies.data_in
  reply-places = marked (eqb mark bang)
    where
      said : (m : Number) → or_place m replies.error (λ p. replies.unasked (4 + p)) ≡ pick (is_value m) (replies.error (with_number m (λ e. e) 0)) (replies.unasked (4 + place_in m))
      said (Value e) = refl
      said (NoDigitAt p) = refl

      marked : (b : Bool) → pick b (replies.error_in end t) (pick (eqb mark dollar) (replies.data_in q end t) (replies.unasked end))
          ≡ first replies.unasked
          (pick b ((end unless eqb (length t) 2) ∷ ((4 + place_in (hex 2 t)) unless is_value (hex 2 t)) ∷ [])
          ((end unless eqb mark dollar) ∷ (end unless starts (letters q) t) ∷ (end unless eqb (length (drop 2 t)) (replies.data_size q))
          ∷ ((6 + replies.first_wrong q (drop 2 t)) unless eqb (replies.first_wrong q (drop 2 t)) (length (drop 2 t))) ∷ []))
          (pick b (replies.error (with_number (hex 2 t) (λ e. e) 0)) (replies.shows (drop 2 t)))
      marked true = ap (λ (r : replies.Read). pick (eqb (length t) 2) r (replies.unasked end)) (said (hex 2 t))
      marked false = refl

-- the header is one test before them
form-unnumbered : (l : Limits) (q : Request) (f : List ℕ) → (v : ℕ) × (read_number (replies.form_reply l q f) ≡ gives v)
unfolding replies.form_reply
form-unnumbered l q f =
    pick_all (λ (r : replies.Read). (v : ℕ) × (read_number r ≡ gives v)) (eqb (get_or f 0 0) l.header) _ _
    (λ _. reply-unnumbered q (length f) (get_or f 3 0) (text_of f)) (λ _. (_, refl))

pub host-numbers : (form : Form) (to : ℕ) (a : Asking) (room frame : List ℕ) → HostNumbers form to a room frame
unfolding writing.write replies.read replies.read_frame replies.form_reply
host-numbers form to a room frame =
    let mark : ℕ = get_or frame 3 0 in
    let t : List ℕ = text_of frame in
    let before : List Test = (2 unless between 1 99 to) ∷ ask_tests (limits_of form) a in
    let envelope : List Test = (10 unless good_shape (limits_in frame) 9 frame) ∷ (11 unless good_check frame) ∷ (12 unless for_station to frame) ∷ [] in
    record {
      writer = exactly refl (λ k. refl) (_, refl);
      reader = exactly (sym (first-append replies.refused before envelope (replies.form_reply (limits_of form) (request_in a) frame))) (λ k. refl)
          (form-unnumbered (limits_of form) (request_in a) frame);
      places = exactly (ap (first replies.unasked ((length frame unless eqb (get_or frame 0 0) (limits_of form).header) ∷ [])) (reply-places (request_in a) (length frame) mark t)) (λ k. refl)
          (pick_all (λ (r : replies.Read). (v : ℕ) × (read_place r ≡ gives v)) (eqb mark bang) _ _ (λ _. (_, refl)) (λ _. (_, refl)));
    }

-- ---- the laser head

module _ (end a b : ℕ) (d : List ℕ) where
  abbrev Unlisted : laser.Told → Type 0
  Unlisted r = (v : ℕ) × (distance_number r ≡ gives v)

  at-unlisted : (m : Number) (ts : List Test) → Unlisted (or_place m (λ v. first laser.unasked ts (laser.measures v)) (λ p. laser.unasked (5 + p)))
  at-unlisted (Value v) [] = (_, refl)
  at-unlisted (Value v) ((k unless true) ∷ ts) = at-unlisted (Value v) ts
  at-unlisted (Value v) ((k unless false) ∷ ts) = (_, refl)
  at-unlisted (NoDigitAt p) ts = (_, refl)

  distance-unlisted : Unlisted (laser.distance_in end a b d)
  unfolding laser.distance_in laser.distance_at
  distance-unlisted =
      pick_all Unlisted (eqb a 48) _ _
      (λ _. pick_all Unlisted (eqb b 68) _ _
      (λ _. pick_all Unlisted (eqb (length d) 6) _ _ (λ _. at-unlisted (decimal 5 d) ((10 unless eqb (get_or d 5 0) 0) ∷ [])) (λ _. (_, refl)))
      (λ _. (_, refl)))
      (λ _. (_, refl))

  -- six data bytes, as a row of tests
  digits-first : (m : Number) (nul : Bool) → or_place m (λ v. first laser.unasked ((10 unless nul) ∷ []) (laser.measures v)) (λ p. laser.unasked (5 + p))
      ≡ first laser.unasked (((5 + place_in m) unless is_value m) ∷ (10 unless nul) ∷ []) (laser.measures (with_number m (λ v. v) 0))
  digits-first (Value v) nul = refl
  digits-first (NoDigitAt p) nul = refl

  distance-places : laser.distance_in end a b d
      ≡ first laser.unasked ((end unless eqb a 48) ∷ (end unless eqb b 68) ∷ (end unless eqb (length d) 6)
      ∷ ((5 + place_in (decimal 5 d)) unless is_value (decimal 5 d)) ∷ (10 unless eqb (get_or d 5 0) 0) ∷ []) (laser.measures (with_number (decimal 5 d) (λ v. v) 0))
  unfolding laser.distance_in laser.distance_at
  distance-places =
      ap (λ (r : laser.Told). first laser.unasked ((end unless eqb a 48) ∷ (end unless eqb b 68) ∷ (end unless eqb (length d) 6) ∷ []) r)
      (digits-first (decimal 5 d) (eqb (get_or d 5 0) 0))

pub laser-numbers : (frame room bytes : List ℕ) (a b : ℕ) → LaserNumbers frame room bytes a b
unfolding laser.read laser.write laser.distance_of
laser-numbers frame room bytes a b =
    let n : length (laser.frame_of a b bytes) ≡ length bytes + 8 = omega (arith, frame-length a b bytes, front_length a b bytes) in
    let d : List ℕ = laser.data_of frame in
    record {
      reader = exactly refl (λ k. refl) (_, refl);
      writer = exactly
          (ap (λ (k : ℕ). first (laser.left room) ((3 unless leb 118 (length room)) ∷ (14 unless leb (length bytes) 99) ∷ []) (record { number = gives k; room = overwrite room 0 (laser.frame_of a b bytes) })) n)
          (λ k. refl) (_, refl);
      distance = exactly refl (λ k. refl) (distance-unlisted (length frame) (get_or frame 3 0) (get_or frame 4 0) d);
      places = exactly (distance-places (length frame) (get_or frame 3 0) (get_or frame 4 0) d) (λ k. refl) (_, refl);
    }

-- ---- the conversions and the bit count

moved-first : (lo n hi start x y : ℕ) → lo + n - 1 ≡ hi → (lo ≤ x → x - lo + start ≡ y) → moved lo n start x ≡ first refused ((5 unless leb lo x) ∷ (5 unless leb x hi) ∷ []) (gives y)
moved-first lo n hi start x y e f = ap (λ (k : ℕ). first refused ((5 unless leb lo x) ∷ (5 unless leb x k) ∷ []) (gives (x - lo + start))) e ∙ go (leb lo x) (λ t. f (leb-true lo x t))
  where
    go : (b : Bool) → (b ≡ true → x - lo + start ≡ y) → first refused ((5 unless b) ∷ (5 unless leb x hi) ∷ []) (gives (x - lo + start)) ≡ first refused ((5 unless b) ∷ (5 unless leb x hi) ∷ []) (gives y)
    go true g = ap (λ (k : ℕ). pick (leb x hi) (gives k) (refused 5)) (g refl)
    go false g = refl

pub conversion-numbers : (x : ℕ) (f g : List ℕ) → ConversionNumbers x f g
unfolding register_address register_number coil_address coil_number
conversion-numbers x f g = record {
  register-address = exactly (moved-first 400001 65536 465536 0 x (x - 400001) refl (λ l. omega arith)) (λ k. refl) (_, refl);
  register-number = exactly
      (moved-first 0 65536 65535 400001 x (x + 400001) refl (λ l. omega arith)
      ∙ pick_yes (leb 0 x) (pick (leb x 65535) (gives (x + 400001)) (refused 5)) (refused 5) (le-leb 0 x zero-le))
      (λ k. refl) (_, refl);
  coil-address = exactly (moved-first 161 96 256 160 x (x - 1) refl (λ l. omega arith)) (λ k. refl) (_, refl);
  coil-number = exactly (moved-first 160 96 255 161 x (x + 1) refl (λ l. omega arith)) (λ k. refl) (_, refl);
  bit-count = exactly refl (λ k. refl) (_, refl);
}

-- ---- the pair's writer and catalogue files, by definition

pub pair-numbers : (n : ℕ) → PairNumbers n
unfolding pairs.pair_words
pair-numbers n = record { from_zero = exactly refl (λ k. refl) (_, refl); below-zero = exactly refl (λ k. refl) (_, refl) }

pub file-numbers : (file asked lent : List ℕ) → FileNumbers file asked lent
unfolding files.outcome_up_to files.tests
file-numbers file asked lent = exactly refl (λ k. refl) (_, refl)
