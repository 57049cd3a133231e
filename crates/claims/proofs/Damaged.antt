-- The statements of specs/LineDamage. A frame that passed its station's tests of shape and check would be a second good frame, and the
-- checks show the damage between two good frames. Assumes nothing.
use mathlib.Core.Bool.{Bool, true, false, false≢true}
use mathlib.Core.List.{List, [], ◌∷◌, ◌++◌}
use mathlib.Core.Logic.{◌≢◌, ◌⊎◌, inl, inr}
use mathlib.Core.Path.{◌≡◌, refl, sym, ap, subst, ◌∙◌}
use Prim.Native.Nat.{ℕ, ◌+◌, ◌-◌}
use native.Mathlib.Omega.{arith}
use borrow.Author.Tests.{eqb-true}
use lib.Bits.{bit_xor, xor_zero_r}
use lib.Dec.{eqb, leb}
use lib.ListN.{length, get_or, take, drop}
use Rattle.rules.specs.Choice.{between, all_between}
use Rattle.rules.specs.Characters.{CR}
use Rattle.rules.specs.Tests.{◌unless◌, first}
use Rattle.rules.proofs.Choose.{pick_all, pick_no, both_left, both_right, in-range}
use Rattle.text_digits.specs.Digits.{running, decimal}
use Rattle.text_digits.specs.declared.Number.TheVariants.{Value}
use Rattle.checks_shared.specs.Fold.{fold}
use Rattle.checks_xor.specs.Xor.{xor_of}
use Rattle.checks_crc.specs.Crc.{right_crc}
use Rattle.checks_lrc.specs.Lrc.{right_lrc}
use Rattle.checks_shared.proofs.Closed.{not-true-false}
use Rattle.checks_shared.proofs.Fold.{fold-append}
use Rattle.theorems_damage.proofs.Shows.{crc-shows-damage, text-shows-change, sum-shows-change}
use Rattle.table_addresses.specs.Catalogue.{table_limit}
use Rattle.station.specs.Site.{Site, error, Done, done}
use Rattle.station.specs.Outcome.{Outcome, silent, sent}
use Rattle.station.specs.Station.{call_tests, heeded, answer, received, station}
use Rattle.station.specs.declared.Whom.{Whom}
use Rattle.station.specs.declared.Whom.TheVariants.{This, All, Other}
use Rattle.modbus_counters.specs.declared.Counters.{Counters}
use Rattle.modbus_rtu.specs.Rtu.{rtu_station}
use Rattle.modbus_ascii.specs.Ascii.{count_of, bytes_of, good_ascii, ascii_station}
use Rattle.mewtocol_frame.specs.declared.Limits.{Limits}
use Rattle.mewtocol_frame.specs.Frame.{limits_of, limits_in, longest_of_all, good_shape, good_check}
use Rattle.mewtocol_frame.specs.declared.Form.{Form}
use Rattle.mewtocol_commands.specs.Commands.{entry, layout, fields_of, good_range}
use Rattle.mewtocol_requests.specs.Reading.{Reading, faulty}
use Rattle.mewtocol_requests.specs.Hearing.{read_frame}
use Rattle.mewtocol_station.specs.Replies.{reply_frame}
use Rattle.mewtocol_station.specs.Station.{errors, reading_asks, whom_in, mewtocol_station}
use Rattle.mewtocol_asking.specs.Asking.{Asking, ◌for◌, numbers_of, listed_by, fit, right_count, start_of, end_of, ask_tests}
use Rattle.mewtocol_reader.specs.Replies as replies
use Rattle.laser.specs.Frame as laser
use Rattle.laser.specs.declared.Reading as head
use Rattle.laser.specs.declared.Reading.TheVariants as reading
use Rattle.laser.proofs.ReadFrames.{shape-ends, shape-digits, distance_read, distance_read-is}
use Rattle.claims.specs.LineDamage.{RtuStruck, AsciiStruck, MewtocolStruck, LaserStruck, OneOf, Silence, NoReply, NoFrame, LineDamage, LostNul}
use Rattle.modbus_ascii.proofs.Pairs.{pairs-bytes}
use Rattle.claims.proofs.Ascii.{bytes-changed}
use Rattle.claims.proofs.Called.{promised}

-- a test that holds is not one that was shown not to hold
clash {ℓ} : {A : Type ℓ} {b : Bool} → b ≡ true → b ≡ false → A
clash t f = absurd (false≢true (sym f ∙ t))

-- 1, 2 and 3, or what the frame gives
calls-or : (P : Outcome → Type 0) (highest least : ℕ) (site : Site) (words room : List ℕ) (o : Outcome)
    → P (silent words room 1) → P (silent words room 2) → P (silent words room 3) → P o
    → P (first (silent words room) (call_tests highest least site (length words) (length room)) o)
calls-or P highest least site words room o one two three frame =
    pick_all P (leb (length words) table_limit) _ _
    (λ _. pick_all P (eqb (length site.attributes) (length words)) _ _
    (λ _. pick_all P (all_between 0 3 site.attributes) _ _
    (λ _. pick_all P (between 1 highest site.own) _ _ (λ _. pick_all P (leb least (length room)) _ _ (λ _. frame) (λ _. three)) (λ _. two))
    (λ _. one)) (λ _. one)) (λ _. one)

-- ---- RTU

rtu-damage : (c : Counters) (site : Site) (words room went came : List ℕ) → RtuStruck went came → Silence (1 ∷ 2 ∷ 3 ∷ 11 ∷ []) words room (rtu_station c site words came room)
unfolding station received
rtu-damage c site words room went came s =
    let P = Silence (1 ∷ 2 ∷ 3 ∷ 11 ∷ []) words room in
    let short = (in-range 4 256 (length went) s.shape-right).1 in
    let wrong = crc-shows-damage went came s.bytes.0 s.bytes.1 s.harm.0 short s.harm.1 s.check-right in
    let shape = sym (ap (between 4 256) s.harm.0) ∙ s.shape-right in
    calls-or P 247 513 site words room _
    (record { number = 1; listed = inl refl; is = refl })
    (record { number = 2; listed = inr (inl refl); is = refl })
    (record { number = 3; listed = inr (inr (inl refl)); is = refl })
    (pick_all P (between 4 256 (length came)) _ _
    (λ _. pick_all P (right_crc came) _ _ (λ r. clash r wrong) (λ _. record { number = 11; listed = inr (inr (inr (inl refl))); is = refl }))
    (λ f. clash shape f))

-- ---- Modbus ASCII

ascii-damage : (c : Counters) (site : Site) (words room went came : List ℕ) → AsciiStruck went came → Silence (1 ∷ 2 ∷ 3 ∷ 10 ∷ 11 ∷ []) words room (ascii_station c site words came room)
unfolding station received
ascii-damage c site words room went came s =
    let P = Silence (1 ∷ 2 ∷ 3 ∷ 10 ∷ 11 ∷ []) words room in
    let wrong : good_ascii came ≡ true → right_lrc (bytes_of came) ≡ false =
    λ h. sum-shows-change (bytes_of went) (bytes_of came) (pairs-bytes (count_of went) (drop 1 went)) (pairs-bytes (count_of came) (drop 1 came))
    (bytes-changed went came s.shape-right h s.harm) s.check-right in
    calls-or P 247 513 site words room _
    (record { number = 1; listed = inl refl; is = refl })
    (record { number = 2; listed = inr (inl refl); is = refl })
    (record { number = 3; listed = inr (inr (inl refl)); is = refl })
    (pick_all P (good_ascii came) _ _
    (λ h. pick_all P (right_lrc (bytes_of came)) _ _ (λ r. clash r (wrong h)) (λ _. record { number = 11; listed = inr (inr (inr (inr (inl refl)))); is = refl }))
    (λ _. record { number = 10; listed = inr (inr (inr (inl refl))); is = refl }))

-- ---- MEWTOCOL

-- a frame of a right shape ends in CR
ends-cr : (l : Limits) (least : ℕ) (f : List ℕ) → good_shape l least f ≡ true → get_or f (length f - 1) 0 ≡ CR
unfolding good_shape
ends-cr l least f e =
    let a = both_right (between least l.longest (length f)) _ e in
    let b = both_right (eqb (get_or f 0 0) l.header) _ a in
    eqb-true _ _ (both_left _ _ b)

-- and begins with its form's header
begins-header : (l : Limits) (least : ℕ) (f : List ℕ) → good_shape l least f ≡ true → get_or f 0 0 ≡ l.header
unfolding good_shape
begins-header l least f e = eqb-true _ _ (both_left _ _ (both_right (between least l.longest (length f)) _ e))

-- one changed character in a good frame of a right shape, be it the header: its check is wrong
wrong-check : (least : ℕ) {went came : List ℕ} → MewtocolStruck least went came → good_shape (limits_in came) least came ≡ true → good_check came ≡ false
wrong-check least {went} {came} s h =
    text-shows-change went came s.bytes.0 s.bytes.1 s.harm (ends-cr (limits_in went) least went s.shape-right ∙ sym (ends-cr (limits_in came) least came h)) s.check-right

abbrev QuietOr40 : List ℕ → ℕ → ℕ → List ℕ → Outcome → Type 0
QuietOr40 words header own room o = Silence (1 ∷ 2 ∷ 3 ∷ 10 ∷ 12 ∷ []) words room o ⊎ (o ≡ sent room (reply_frame header own (error 0x40)) words)

-- what a reading comes to, for whomever the frame is
abbrev heard_as : Site → List ℕ → List ℕ → ℕ → Whom → Reading → Outcome
heard_as site words room header whom r = let d : Done = done errors site.judge words (reading_asks r) in
    first (silent words room) ((12 unless heeded whom (reading_asks r) d.says) ∷ []) (answer whom room (reply_frame header site.own d.says) d.words)

-- a wrong check: error 40 from this station, with the header that arrived, and silence of all others
heard-40 : (site : Site) (words room : List ℕ) (header arrived : ℕ) → header ≡ arrived → (whom : Whom) → QuietOr40 words arrived site.own room (heard_as site words room header whom (faulty 0x40))
unfolding done
heard-40 site words room header arrived e This = inr (ap (λ (k : ℕ). sent room (reply_frame k site.own (error 0x40)) words) e)
heard-40 site words room header arrived e All = inl (record { number = 12; listed = inr (inr (inr (inr (inl refl)))); is = refl })
heard-40 site words room header arrived e Other = inl (record { number = 12; listed = inr (inr (inr (inr (inl refl)))); is = refl })

mewtocol-damage : (site : Site) (words room went came : List ℕ) → MewtocolStruck 8 went came → QuietOr40 words (get_or came 0 0) site.own room (mewtocol_station site words came room)
unfolding station received read_frame
mewtocol-damage site words room went came s =
    let P = QuietOr40 words (get_or came 0 0) site.own room in
    let Q : Reading → Type 0 = λ r. P (heard_as site words room (limits_in came).header (whom_in site.own came) r) in
    calls-or P 99 longest_of_all site words room _
    (inl (record { number = 1; listed = inl refl; is = refl }))
    (inl (record { number = 2; listed = inr (inl refl); is = refl }))
    (inl (record { number = 3; listed = inr (inr (inl refl)); is = refl }))
    (pick_all P (good_shape (limits_in came) 8 came) _ _
    (λ h. pick_all Q (good_check came) _ _ (λ r. clash r (wrong-check 8 s h)) (λ _. heard-40 site words room _ _ (sym (begins-header (limits_in came) 8 came h)) (whom_in site.own came)))
    (λ _. inl (record { number = 10; listed = inr (inr (inr (inl refl))); is = refl })))

abbrev Quiet : replies.Read → Type 0
Quiet r = (k : ℕ) × (OneOf (2 ∷ 10 ∷ 11 ∷ 14 ∷ []) k × (r ≡ replies.refused k))

-- what was asked, by its three tests
asked-or : (l : Limits) (a : Asking) (r : replies.Read) → Quiet r → Quiet (first replies.refused (ask_tests l a) r)
asked-or l (c for q) r h =
    pick_all Quiet (right_count (layout (entry c).kind) (listed_by q) (start_of q) (end_of q)) _ _
    (λ _. pick_all Quiet (fit (fields_of (layout (entry c).kind) (listed_by q)) (numbers_of q)) _ _
    (λ _. pick_all Quiet (good_range l (entry c).kind (start_of q) (end_of q)) _ _ (λ _. h) (λ _. no)) (λ _. no)) (λ _. no)
  where
    no : Quiet (replies.refused 14)
    no = (14, (inr (inr (inr (inl refl))), refl))

host-damage : (went came : List ℕ) → MewtocolStruck 9 went came → (l : Limits) (to : ℕ) (a : Asking) → Quiet (replies.read l to a came)
unfolding replies.read replies.read_frame
host-damage went came s l to a =
    pick_all Quiet (between 1 99 to) _ _
    (λ _. asked-or l a _ (pick_all Quiet (good_shape (limits_in came) 9 came) _ _
    (λ h. pick_all Quiet (good_check came) _ _ (λ r. clash r (wrong-check 9 s h)) (λ _. (11, (inr (inr (inl refl)), refl))))
    (λ _. (10, (inr (inl refl), refl)))))
    (λ _. (2, (inl refl, refl)))

-- a part of what was refused is empty, at the frame's start
no-reply : (form : Form) (to : ℕ) (a : Asking) (frame : List ℕ) → Quiet (replies.read (limits_of form) to a frame) → NoReply form to a frame
no-reply form to a frame q = record {
  number = q.0;
  listed = q.1.0;
  reply-is = λ r e. e ∙ q.1.1;
  part-is = λ start place bytes p. (p.bytes-are ∙ ap replies.bytes_of q.1.1, p.place_is ∙ ap (λ (r : replies.Read). replies.place_of r start) q.1.1);
}

-- ---- laser head

-- what was refused is no frame, whatever stands beside it
not-frame : (r : head.Reading) (d : List ℕ) (k : ℕ) → laser.given r d ≡ laser.none k → laser.given r [] ≡ laser.none k
not-frame (reading.Frame a b) d k e = let z : ◌≡◌ {A = ℕ} 0 1 = cc in absurd (omega arith)
not-frame (reading.Refused r) d k e = e

laser-damage : (went came : List ℕ) → LaserStruck went came → NoFrame came
unfolding laser.read
laser-damage went came s =
    let P : laser.Read → Type 0 = λ r. (k : ℕ) × (OneOf (10 ∷ 11 ∷ []) k × (r ≡ laser.none k)) in
    let wrong : laser.good_shape came ≡ true → laser.good_check came ≡ false =
    λ h. text-shows-change went came s.bytes.0 s.bytes.1 s.harm (shape-ends went s.shape-right ∙ sym (shape-ends came h)) s.check-right in
    let r : P (laser.read came) =
    pick_all P (laser.good_shape came) _ _
    (λ h. pick_all P (laser.good_check came) _ _ (λ t. clash t (wrong h)) (λ _. (11, (inr (inl refl), refl))))
    (λ _. (10, (inl refl, refl))) in
    record {
      number = r.0;
      listed = r.1.0;
      reading-is = λ x e. not-frame x (laser.bytes_of (laser.read came)) r.0 (e ∙ r.1.1);
      part-is = λ start place bytes p. (p.bytes-are ∙ ap laser.bytes_of r.1.1, p.place_is ∙ ap (λ (x : laser.Read). laser.place_of x start) r.1.1);
      distance_is = λ d e. e ∙ distance_read-is came ∙ ap (distance_read (length came)) r.1.1;
    }

-- ---- whatever the promises allow

pub line-damage : (c : Counters) (site : Site) (words room went came : List ℕ) → LineDamage c site words room went came
line-damage c site words room went came = record {
  rtu = λ s a words' room' p. subst (Silence (1 ∷ 2 ∷ 3 ∷ 11 ∷ []) words room) (sym (promised.station _ a words' room' p)) (rtu-damage c site words room went came s);
  ascii = λ s a words' room' p. subst (Silence (1 ∷ 2 ∷ 3 ∷ 10 ∷ 11 ∷ []) words room) (sym (promised.station _ a words' room' p)) (ascii-damage c site words room went came s);
  mewtocol = λ s a words' room' p. subst (QuietOr40 words (get_or came 0 0) site.own room) (sym (promised.station _ a words' room' p)) (mewtocol-damage site words room went came s);
  host = λ s form to a. no-reply form to a came (host-damage went came s (limits_of form) to a);
  laser-head = laser-damage went came;
}

-- ---- a lost NUL

nul-unseen : (a b : List ℕ) → xor_of (a ++ (0 ∷ b)) ≡ xor_of (a ++ b)
unfolding fold
nul-unseen a b =
    fold-append bit_xor 0 a (0 ∷ b) ∙ ap (λ (r : ℕ). fold bit_xor r b) (xor_zero_r (fold bit_xor 0 a)) ∙ sym (fold-append bit_xor 0 a b)

-- a frame's digits stand in its first three characters
digits-in-three : (f : List ℕ) → decimal 2 (drop 1 f) ≡ decimal 2 (drop 1 (take 3 f))
unfolding running
digits-in-three [] = refl
digits-in-three (x ∷ []) = refl
digits-in-three (x ∷ y ∷ []) = refl
digits-in-three (x ∷ y ∷ z ∷ f) = refl

other_length : (went came : List ℕ) → laser.good_shape went ≡ true → take 3 came ≡ take 3 went → length came ≢ length went → laser.read came ≡ laser.none 10
unfolding laser.read
other_length went came g e l = pick_no (laser.good_shape came) _ _ (not-true-false (laser.good_shape came) (λ h. l (same h)))
  where
    same : laser.good_shape came ≡ true → length came ≡ length went
    same h =
        let a = shape-digits went g in
        let b = shape-digits came h in
        let d : decimal 2 (drop 1 came) ≡ decimal 2 (drop 1 went) = digits-in-three came ∙ ap (λ (t : List ℕ). decimal 2 (drop 1 t)) e ∙ sym (digits-in-three went) in
        let v : Value b.0 ≡ Value a.0 = sym b.1.0 ∙ d ∙ a.1.0 in
        let n : b.0 ≡ a.0 = cc in
        b.1.1 ∙ ap (λ (k : ℕ). 8 + k) n ∙ sym a.1.1

pub lost-nul : LostNul
lost-nul = record { unseen = nul-unseen; refused-by-length = other_length }
