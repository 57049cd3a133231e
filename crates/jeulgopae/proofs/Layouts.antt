-- The statements of specs/Statements: each layout has a left inverse on what the definitions give; data follows the frame's first characters.
-- Assumes nothing.
use mathlib.Core.Path.{◌≡◌, refl, sym, ap, ◌∙◌}
use mathlib.Core.List.{List, [], ◌∷◌}
use mathlib.Core.Bool.{true, false}
use mathlib.Core.Logic.{◌≢◌}
use Prim.Native.Nat.{ℕ, zero, suc, ◌+◌, ◌-◌, ◌*◌, ◌/◌, ◌%◌, ◌≤◌, ◌<◌}
use native.Mathlib.Omega.{arith}
use borrow.Author.Tests.{lt-ltb, le-ltb, ne_eqb}
use lib.Dec.{eqb}
use lib.ListN.{length, take, drop, get_or, length-take, length-drop}
use Rattle.rules.specs.Choice.{between}
use Rattle.rules.specs.Characters.{bang, digit0, dollar, letter_d}
use Rattle.rules.specs.Given.{refused}
use Rattle.rules.specs.Tests.{Test, first, ◌unless◌}
use Rattle.rules.proofs.Choose.{pick_all, pick_yes, pick_no}
use Rattle.text_digits.specs.Digits.{or_place, decimal}
use Rattle.text_digits.specs.declared.Number.{Number}
use Rattle.text_digits.specs.declared.Number.TheVariants.{Value, NoDigitAt}
use Rattle.text_digits.proofs.Running.{running-below}
use Rattle.text_hex.specs.Hex.{hex}
use Rattle.text_hex.proofs.Values.{hex-digits}
use Rattle.checks_shared.proofs.Bits.{byte-below}
use Rattle.station.specs.Outcome as station
use Rattle.mewtocol_frame.specs.declared.Limits.{Limits}
use Rattle.mewtocol_frame.specs.Frame.{limits_of, limits_in, good_shape, good_check, for_station, text_of}
use Rattle.mewtocol_frame.specs.Text.{starts}
use Rattle.mewtocol_requests.specs.Requests.{Request, letters}
use Rattle.mewtocol_asking.specs.Asking.{asking, request_in}
use Rattle.mewtocol_reader.specs.Replies as replies
use Rattle.mewtocol_reader.proofs.Shows.{shown, shown-long, data-at}
use Rattle.laser.specs.Frame as laser
use Rattle.laser.proofs.ReadFrames.{read_is}
use Rattle.host_pairs.specs.Pairs as pairs
use Rattle.jeulgopae.specs.Codes.{low_of, high_of, low_code, high_code}
use Rattle.jeulgopae_codes.specs.Codes.{minus, code, answer_code, place_code, reply_code, laser_code, distance_code}
use Rattle.jeulgopae.specs.Statements.{error, wrong_at, no_reply, counts, told, told_answer, said, told_reply, counted, told_laser, told_distance, PairTold, CodeTold, AnswerTold, ReplyTold, LaserTold, DistanceTold, ReplyData, LaserData}
use Rattle.jeulgopae.proofs.Bounds.{asked-all, shape-short}

pub code-told : CodeTold
code-told = record { value = λ n. refl; refusal = refusal }
  where
    refusal : (k : ℕ) → 1 ≤ k → told (code (refused k)) ≡ refused k
    refusal zero h = absurd (omega (arith, h))
    refusal (suc k) h = refl

pub answer-told : AnswerTold
answer-told = record { reply = λ n. refl; carried = refl; refusal = refusal }
  where
    refusal : (k : ℕ) → 1 ≤ k → k ≢ 15 → told_answer (answer_code (station.numbered k)) ≡ station.numbered k
    refusal zero h o = absurd (omega (arith, h))
    refusal (suc k) h o = pick_no _ _ _ (ne_eqb k 14 (λ e. o (ap suc e)))

-- ---- a reply

-- a refusal below 256 is told; so is any error
refusal-told : (k : ℕ) → 1 ≤ k → k ≤ 255 → told_reply (minus k) ≡ no_reply k
refusal-told zero h m = absurd (omega (arith, h))
refusal-told (suc k) h m = pick_yes _ _ _ (lt-ltb k 255 (omega (arith, m)))

error-told : (e : ℕ) → e < 256 → told_reply (minus (256 + e)) ≡ error e
error-told e h =
    let s : 256 + e ≡ suc (255 + e) = omega arith in
    let back : 255 + e - 255 ≡ e = omega arith in
    ap (λ (k : ℕ). told_reply (minus k)) s
    ∙ pick_no _ _ _ (le-ltb (255 + e) 255 (omega arith)) ∙ pick_yes _ _ _ (lt-ltb (255 + e) 129999 (omega (arith, h))) ∙ ap error back

-- so is a place
place-told : (p : ℕ) → told_reply (place_code p) ≡ wrong_at p
place-told p =
    let s : 130000 + p ≡ suc (129999 + p) = omega arith in
    let back : 129999 + p - 129999 ≡ p = omega arith in
    ap (λ (k : ℕ). told_reply (minus k)) s
    ∙ pick_no _ _ _ (le-ltb (129999 + p) 255 (omega arith)) ∙ pick_no _ _ _ (le-ltb (129999 + p) 129999 (omega arith)) ∙ ap wrong_at back

abbrev Told : replies.Read → Type 0
Told r = told_reply (reply_code r) ≡ said r

error-in : (m : Number) → ((n : ℕ) → m ≡ Value n → n < 256) → Told (or_place m replies.error (λ p. replies.unasked (4 + p)))
error-in (Value e) h = error-told e (h e refl)
error-in (NoDigitAt p) h = place-told (4 + p)

reply-in : (q : Request) (end mark : ℕ) (t : List ℕ) → Told (replies.reply_in q end mark t)
unfolding replies.reply_in replies.error_in replies.data_in
reply-in q end mark t =
    let d = drop 2 t in
    pick_all Told (eqb mark bang) _ _
    (λ _. pick_all Told (eqb (length t) 2) _ _ (λ _. error-in (hex 2 t) (λ n e. omega (arith, running-below hex-digits 2 0 n t e))) (λ _. place-told end))
    (λ _. pick_all Told (eqb mark dollar) _ _
    (λ _. pick_all Told (starts (letters q) t) _ _
    (λ _. pick_all Told (eqb (length d) (replies.data_size q)) _ _
    (λ _. pick_all Told (eqb (replies.first_wrong q d) (length d)) _ _ (λ _. refl) (λ _. place-told _))
    (λ _. place-told end))
    (λ _. place-told end))
    (λ _. place-told end))

told_in : (l : Limits) (station : ℕ) (q : Request) (f : List ℕ) → Told (replies.read_frame l station q f)
unfolding replies.read_frame replies.form_reply
told_in l station q f =
    pick_all Told (good_shape (limits_in f) 9 f) _ _
    (λ _. pick_all Told (good_check f) _ _
    (λ _. pick_all Told (for_station station f) _ _
    (λ _. pick_all Told (eqb (get_or f 0 0) l.header) _ _ (λ _. reply-in q (length f) (get_or f 3 0) (text_of f)) (λ _. place-told (length f)))
    (λ _. refl))
    (λ _. refl))
    (λ _. refl)

pub reply-told : ReplyTold
unfolding replies.read
reply-told form station a cs vs ws f =
    let k = asking a cs vs ws in
    pick_all Told (between 1 99 station) _ _ (λ _. asked-all (limits_of form) Told replies.refused k _ (λ _. told_in (limits_of form) station (request_in k) f) refl) (λ _. refl)

-- ---- a distance

distance-place : (p : ℕ) → told_distance (place_code p) ≡ laser.unasked p
distance-place p =
    let s : 130000 + p ≡ suc (129999 + p) = omega arith in
    let back : 129999 + p - 129999 ≡ p = omega arith in
    ap (λ (k : ℕ). told_distance (minus k)) s ∙ pick_no _ _ _ (le-ltb (129999 + p) 129999 (omega arith)) ∙ ap laser.unasked back

abbrev DistanceTells : laser.Told → Type 0
DistanceTells t = told_distance (distance_code t) ≡ t

distance-at : (m : Number) (ts : List Test) → DistanceTells (or_place m (λ v. first laser.unasked ts (laser.measures v)) (λ p. laser.unasked (5 + p)))
distance-at (Value v) [] = refl
distance-at (Value v) ((k unless true) ∷ ts) = distance-at (Value v) ts
distance-at (Value v) ((k unless false) ∷ ts) = distance-place k
distance-at (NoDigitAt p) ts = distance-place (5 + p)

pub distance-told : DistanceTold
unfolding laser.distance_of laser.distance_in laser.distance_at
distance-told f =
    pick_all DistanceTells (laser.good_shape f) _ _
    (λ _. pick_all DistanceTells (laser.good_check f) _ _
    (λ _. pick_all DistanceTells (eqb (get_or f 3 0) digit0) _ _
    (λ _. pick_all DistanceTells (eqb (get_or f 4 0) letter_d) _ _
    (λ _. pick_all DistanceTells (eqb (length (laser.data_of f)) 6) _ _ (λ _. distance-at (decimal 5 (laser.data_of f)) ((10 unless eqb (get_or (laser.data_of f) 5 0) 0) ∷ [])) (λ _. distance-place (length f)))
    (λ _. distance-place (length f)))
    (λ _. distance-place (length f)))
    (λ _. refl))
    (λ _. refl)

-- ---- the data of a reply

pub reply-data : ReplyData
reply-data form station a cs vs ws f t e =
    let n = shown-long (limits_of form) station (asking a cs vs ws) f t e in
    let whole = (shown (limits_of form) station (asking a cs vs ws) f t e).1 ∙ data-at f n in
    let long : length t ≡ length f - 9 = omega (arith, n, ap length whole, length-take (length f - 9) (drop 6 f), length-drop 6 f) in
    whole ∙ ap (λ (k : ℕ). take k (drop 6 f)) (sym long)

-- ---- a laser head's frame

pub laser-data : LaserData
laser-data f a b d e =
    let r = read_is f a b d e in
    let long : length d ≡ length f - 8 = omega (arith, r.1, ap length r.0, length-take (length f - 8) (drop 5 f), length-drop 5 f) in
    r.0 ∙ ap (λ (k : ℕ). take k (drop 5 f)) (sym long)

-- a byte and a count below 256 are told apart
split : (a b : ℕ) (d : List ℕ) → b < 256 → length d < 256 → told_laser (laser_code (laser.frame a b d)) ≡ counts a b (length d)
split a b d hb hd =
    let x = 65536 * a + 256 * b + length d in
    let first : x / 65536 ≡ a = omega (arith, hb, hd) in
    let second : x / 256 % 256 ≡ b = omega (arith, hb, hd) in
    let last : x % 256 ≡ length d = omega (arith, hd) in
    rw (first, second, last)

abbrev LaserTells : laser.Read → Type 0
LaserTells r = told_laser (laser_code r) ≡ counted r

pub laser-told : LaserTold
unfolding laser.read
laser-told f h =
    pick_all LaserTells (laser.good_shape f) _ _
    (λ s. pick_all LaserTells (laser.good_check f) _ _
    (λ _. split (get_or f 3 0) (get_or f 4 0) (laser.data_of f) (byte-below f 4 h) (omega (arith, shape-short f s, length-take (length f - 8) (drop 5 f))))
    (λ _. refl))
    (λ _. refl)

-- ---- a number's two words

pub pair-told : PairTold
unfolding pairs.pair_words
pair-told = record {
  low = λ z. pick_all (λ (s : pairs.Split). told (low_code s) ≡ low_of s) (pairs.is_writable z) _ _ (λ _. refl) (λ _. refl);
  high = λ z. pick_all (λ (s : pairs.Split). told (high_code s) ≡ high_of s) (pairs.is_writable z) _ _ (λ _. refl) (λ _. refl);
}
