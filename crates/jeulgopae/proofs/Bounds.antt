-- Every value that an entry gives has room below the sign: replies, requests and frames are short, numbers are small. Assumes nothing.
use mathlib.Core.Path.{◌≡◌, sym, subst}
use mathlib.Core.List.{List, [], ◌∷◌}
use mathlib.Core.Bool.{true, false}
use Prim.Native.Nat.{ℕ, ◌+◌, ◌-◌, ◌≤◌, ◌<◌}
use native.Mathlib.Omega.{arith}
use borrow.Author.Tests.{leb-true}
use lib.Dec.{leb}
use lib.ListN.{length, drop, length-take, length-drop}
use Rattle.rules.specs.Choice.{between}
use Rattle.rules.specs.Tests.{Test, ◌unless◌, first}
use Rattle.rules.specs.Given.{gives, refused}
use Rattle.rules.proofs.Choose.{pick_all, both_left, in-range}
use Rattle.text_digits.proofs.Running.{running-below}
use Rattle.text_digits.proofs.Values.{decimal-digits}
use Rattle.text_hex_words.specs.Words.{low_first_word}
use Rattle.text_hex_words.proofs.Small.{low-first-small}
use Rattle.table_addresses.specs.Catalogue.{table_limit, moved, register_address, register_number, coil_address, coil_number}
use Rattle.station.specs.Site.{Site, Done, done}
use Rattle.station.specs.Outcome.{numbered, Outcome, silent}
use Rattle.station.specs.Station.{Format, call_tests, frame_tests, leaves, answer, received, station}
use Rattle.station.specs.declared.Whom.{Whom}
use Rattle.station.specs.declared.Whom.TheVariants.{This, All, Other}
use Rattle.modbus_counters.specs.declared.Counters.{Counters}
use Rattle.modbus_line.specs.Framing.{modbus}
use Rattle.modbus_line.specs.Calls as calls
use Rattle.modbus_rtu.specs.Rtu.{body_of, rtu, rtu_station}
use Rattle.modbus_ascii.specs.Ascii.{bytes_of, body_in, ascii, ascii_station}
use Rattle.theorems_modbus.proofs.Replies.{rtu-replies, ascii-replies}
use Rattle.mewtocol_frame.specs.declared.Form.{Form}
use Rattle.mewtocol_frame.specs.declared.Limits.{Limits}
use Rattle.mewtocol_frame.specs.Frame.{limits_of, form_in, limits_in, good_shape}
use Rattle.mewtocol_frame.specs.Text.{bit}
use Rattle.mewtocol_frame.proofs.Sealed.{roomy, longest-of}
use Rattle.mewtocol_requests.specs.Hearing.{read_frame}
use Rattle.mewtocol_requests.proofs.Sound.{frame-answerable}
use Rattle.mewtocol_station.specs.Station.{mewtocol, mewtocol_station}
use Rattle.mewtocol_station.proofs.Frames.{reading-framed}
use Rattle.mewtocol_asking.specs.Asking.{Asking, ask_tests, can_ask}
use Rattle.mewtocol_asking.proofs.Tests.{tests-are}
use Rattle.mewtocol_writer.specs.Writing as writing
use Rattle.mewtocol_reader.specs.Replies as replies
use Rattle.mewtocol_writer.proofs.Frames.{request-framed}
use Rattle.mewtocol_reader.proofs.Places.{wrong-place}
use Rattle.mewtocol_reader.proofs.Shows.{shown}
use Rattle.laser.specs.Frame as laser
use Rattle.laser.proofs.Places as head
use Rattle.laser.proofs.ReadFrames.{shape-digits}
use Rattle.laser.proofs.WrittenFrames.{front_length, frame-length}
use Rattle.jeulgopae_codes.specs.Codes.{Small, SmallReply, SmallNumber, Short}

-- a refusal is no value
none : (k : ℕ) → Small (refused k)
none k n e = let z : ◌≡◌ {A = ℕ} 0 1 = cc in absurd (omega arith)

-- a length that has room
long : (m : List ℕ) → length m ≤ 2048 → Small (gives (length m))
long m h n e = let same : length m ≡ n = cc in omega (arith, h, same)

-- ---- tests in a row

-- what holds of every refusal and of the answer holds of what is given
first-all : {A : Type 0} (P : A → Type 0) (f : ℕ → A) (ts : List Test) (a : A) → ((k : ℕ) → P (f k)) → P a → P (first f ts a)
first-all P f [] a h p = p
first-all P f ((k unless true) ∷ ts) a h p = first-all P f ts a h p
first-all P f ((k unless false) ∷ ts) a h p = h k

-- what can be asked is answered, all else is 14
pub asked-all : (l : Limits) {A : Type 0} (P : A → Type 0) (f : ℕ → A) (a : Asking) (o : A) → (can_ask l a ≡ true → P o) → P (f 14) → P (first f (ask_tests l a) o)
asked-all l P f a o h p = subst P (sym (tests-are l a f o)) (pick_all P (can_ask l a) o (f 14) h (λ _. p))

-- ---- the stations

silence : (k : ℕ) → SmallReply (numbered k)
silence k n e = let z : ◌≡◌ {A = ℕ} 0 1 = cc in absurd (omega arith)

-- nothing goes out to all
answer-small : (whom : Whom) (room message words : List ℕ) → length message ≤ 2048 → SmallReply (answer whom room message words).result
answer-small This room message words h n e = let same : length message ≡ n = cc in omega (arith, h, same)
answer-small All room message words h n e = let z : ◌≡◌ {A = ℕ} 0 1 = cc in absurd (omega arith)
answer-small Other room message words h n e = let same : length message ≡ n = cc in omega (arith, h, same)

-- whatever the format: its reply is short
station-small : (m : Format) (site : Site) (words frame room : List ℕ)
    → length (m.reply site.own frame (done m.errors site.judge words (m.asked frame)).says) ≤ 2048 → SmallReply (station m site words frame room).result
unfolding station received
station-small m site words frame room h =
    let P : Outcome → Type 0 = λ o. SmallReply o.result in
    let d : Done = leaves m site words frame in
    let whom = m.whom site.own frame in
    let message = m.reply site.own frame d.says in
    first-all P (silent words room) (call_tests m.highest m.room site (length words) (length room)) (received m site words frame room) silence
    (first-all P (silent words room) (frame_tests m site words frame) (answer whom room message d.words) silence (answer-small whom room message d.words h))

pub rtu-small : (c : Counters) (site : Site) (words frame room : List ℕ) → SmallReply (rtu_station c site words frame room).result
rtu-small c site words frame room =
    let heard : Counters = calls.shown rtu site.own frame c in
    station-small (modbus rtu heard) site words frame room (omega (arith, (rtu-replies heard site.own site.judge words (body_of frame)).short))

pub ascii-small : (c : Counters) (site : Site) (words frame room : List ℕ) → SmallReply (ascii_station c site words frame room).result
ascii-small c site words frame room =
    let heard : Counters = calls.shown ascii site.own frame c in
    station-small (modbus ascii heard) site words frame room (omega (arith, (ascii-replies heard site.own site.judge words (body_in (bytes_of frame))).short))

-- a frame of either form has at most 2,048 characters
short : (form : Form) (least : ℕ) (f : List ℕ) → good_shape (limits_of form) least f ≡ true → (least ≤ length f) × (length f ≤ 2048)
unfolding good_shape
short form least f s =
    let r = in-range least (limits_of form).longest (length f) (both_left _ _ s) in
    (r.0, omega (arith, r.1, longest-of form))

pub mewtocol-small : (site : Site) (words frame room : List ℕ) → SmallReply (mewtocol_station site words frame room).result
mewtocol-small site words frame room =
    let l : Limits = limits_in frame in
    station-small mewtocol site words frame room
    (short (form_in frame) 9 _ (reading-framed l (roomy (form_in frame)) site.own site.judge words (read_frame l frame) (frame-answerable l frame)).shape).1

-- ---- the host side

pub request-small : (form : Form) (to : ℕ) (a : Asking) (room : List ℕ) → Small (writing.write (limits_of form) to a room).number
unfolding writing.write
request-small form to a room =
    let P : writing.Outcome → Type 0 = λ o. Small o.number in
    let l : Limits = limits_of form in
    let m = writing.ask_frame l.header to a in
    pick_all P (between 1 99 to) _ _
    (λ _. pick_all P (leb l.longest (length room)) _ _
    (λ _. asked-all l P (λ k. writing.left k room) a _ (λ can. long m (short form 8 m (request-framed l (roomy form) to a can).shape).1) (none 14))
    (λ _. none 3))
    (λ _. none 2)

pub reply-short : (form : Form) (from : ℕ) (a : Asking) (f : List ℕ) → Short (replies.read (limits_of form) from a f) f
reply-short form from a f =
    let l : Limits = limits_of form in
    let own : Form = form_in f in
    (λ t e. short own 9 f (shown l from a f t e).0, λ p e. let w = wrong-place l from a f p e in omega (arith, w.within, short own 9 f w.shape))

pub word_small : (s : List ℕ) → SmallNumber (low_first_word s)
word_small s v e = omega (arith, low-first-small s v e)

pub bit-small : (x : ℕ) → SmallNumber (bit x)
unfolding bit
bit-small x =
    pick_all SmallNumber (between 48 49 x) _ _
    (λ b v e. let same : x - 48 ≡ v = cc in omega (arith, same, in-range 48 49 x b))
    (λ _ v e. let z : ◌≡◌ {A = ℕ} 0 1 = cc in absurd (omega arith))

-- ---- the laser head

pub frame_small : (room : List ℕ) (a b : ℕ) (d : List ℕ) → Small (laser.write room a b d).number
unfolding laser.write
frame_small room a b d =
    let P : laser.Outcome → Type 0 = λ o. Small o.number in
    pick_all P (leb 118 (length room)) _ _
    (λ _. pick_all P (leb (length d) 99) _ _
    (λ few. long (laser.frame_of a b d) (omega (arith, frame-length a b d, front_length a b d, leb-true (length d) 99 few)))
    (λ _. none 14))
    (λ _. none 3)

-- a frame of a right shape has at most 99 bytes of data
pub shape-short : (f : List ℕ) → laser.good_shape f ≡ true → length f ≤ 107
shape-short f s = let r = shape-digits f s in omega (arith, r.1.1, running-below decimal-digits 2 0 r.0 (drop 1 f) r.1.0)

-- and so has one that is read
pub read_short : (f : List ℕ) (a b : ℕ) (d : List ℕ) → laser.read f ≡ laser.frame a b d → length f ≤ 107
unfolding laser.read
read_short f a b d =
    pick_all (λ r. r ≡ laser.frame a b d → length f ≤ 107) (laser.good_shape f) _ _
    (λ s _. shape-short f s)
    (λ _ e. let z : ◌≡◌ {A = ℕ} 0 1 = cc in absurd (omega arith))

-- and so is a place within it
pub distance-short : (f : List ℕ) (p : ℕ) → laser.distance_of f ≡ laser.unasked p → p ≤ 107
distance-short f p e = let w = head.wrong-place f p e in omega (arith, w.within, shape-short f w.shape)

pub data-count : (f : List ℕ) → 8 ≤ length f → length f - 8 ≡ length (laser.data_of f)
data-count f h = omega (arith, h, length-take (length f - 8) (drop 5 f), length-drop 5 f)

-- ---- numbers and addresses

module _ (lo n start x : ℕ) where
  moved-small : lo + n + start < 2147483648 → Small (moved lo n start x)
  moved-small h =
      pick_all Small (leb lo x) _ _
      (λ _. pick_all Small (leb x (lo + n - 1)) _ _
      (λ b v e. let same : x - lo + start ≡ v = cc in omega (arith, h, same, leb-true x (lo + n - 1) b))
      (λ _. none 5))
      (λ _. none 5)

module _ (x : ℕ) where
  pub register-address-small : Small (register_address x)
  unfolding register_address
  register-address-small = moved-small 400001 table_limit 0 x (omega arith)

  pub register-number-small : Small (register_number x)
  unfolding register_number
  register-number-small = moved-small 0 table_limit 400001 x (omega arith)

  pub coil-address-small : Small (coil_address x)
  unfolding coil_address
  coil-address-small = moved-small 161 96 160 x (omega arith)

  pub coil-number-small : Small (coil_number x)
  unfolding coil_number
  coil-number-small = moved-small 160 96 161 x (omega arith)
