-- The statements of specs/Claims, each proved. Assumes nothing.
use mathlib.Core.Bool.{Bool, true, false, not, false≢true}
use mathlib.Core.List.{List, [], ◌∷◌, ◌++◌, append_assoc, append-nil}
use mathlib.Core.Path.{◌≡◌, refl, sym, ap, ap₂, ◌∙◌, subst}
use Prim.Native.Nat.{ℕ, zero, suc, ◌+◌, ◌-◌, ◌*◌, ◌/◌, ◌%◌, ◌≤◌, zero-le}
use native.Mathlib.Omega.{arith}
use lib.Dec.{eqb, leb}
use lib.ListN.{length, take, drop, length-append, length-take, take-append-drop}
use lib.Seq.{take_at, take_all, take-add, drop_at, drop-drop}
use borrow.Author.Tests.{leb-true, eqb-true, not-true}
use Rattle.rules.specs.Choice.{pick, between}
use Rattle.rules.proofs.Choose.{both_left, both_right, in-range}
use Rattle.text_rooms.specs.Room.{each}
use Rattle.checks_shared.specs.Line.{Bytes, flipped}
use Rattle.checks_shared.specs.Right.{same}
use Rattle.checks_shared.proofs.Bits.{bytes_take, bytes_drop}
use Rattle.checks_shared.proofs.Closed.{same_refl}
use Rattle.checks_crc.specs.Crc.{right_crc}
use Rattle.noise_report.specs.Records.{Pair, pair_of, Fine, AllFine, length_at, size_at, whole, pair_at, Input, these, bad, after, at_most, limit}
use Rattle.noise_report.specs.Numbers.{sum, one, is_missed, flips, numbers, report_of}
use Rattle.noise_report.specs.Heard.{Reader, Heard}
use Rattle.std.proofs.Common.{Ok, Err}
use Rattle.noise_report.specs.Claims.{MissedHasFour, FourForEachMissed, written, all_written, ReadsWritten, WrittenIsRead, joined, Run, none, more, CutsDontMatter, StartsOnce, Stepped, StepByStep}
use Rattle.noise_report.specs.declared.Report.{Report}
use Rattle.theorems_damage.proofs.Flips.{four-to-pass}
use Rattle.noise_report.proofs.Reading.{fine-at, fine_more, after-these, at-end, at-whole}
use Rattle.noise_report.proofs.Hearing.{progress}

-- ---- four bits

-- every byte of every record is one
unfoldable AllBytes : List Pair → Type 0
AllBytes [] = Unit {0}
AllBytes (p ∷ rs) = Bytes p.sent × Bytes p.received × AllBytes rs

pub missed-has-four : MissedHasFour
missed-has-four p fine bf bg e =
    let f = p.sent in
    let g = p.received in
    let rest = both_right (right_crc f) _ e in
    four-to-pass f g bf bg fine.alike fine.most (both_left _ _ e) (both_right (not (same f g)) _ rest)
    (λ q. false≢true (sym (not-true (same f g) (both_left _ _ rest)) ∙ ap (same f) (sym q) ∙ same_refl f))

four-one : (p : Pair) → Fine p → Bytes p.sent → Bytes p.received → 4 * one (is_missed p) ≤ flips p
four-one p fine bf bg = go (is_missed p) refl (right_crc p.sent) refl
  where
    go : (m : Bool) → is_missed p ≡ m → (t : Bool) → right_crc p.sent ≡ t → 4 * one m ≤ pick t (flipped p.sent p.received) 0
    go true e true q = missed-has-four p fine bf bg e
    go true e false q = absurd (false≢true (sym q ∙ both_left (right_crc p.sent) _ e))
    go false e t q = zero-le

four-all : (rs : List Pair) → AllFine rs → AllBytes rs → 4 * sum (λ p. one (is_missed p)) rs ≤ sum flips rs
unfolding sum AllFine AllBytes
four-all [] a b = zero-le
four-all (p ∷ rs) a b = omega (arith, four-one p a.0 b.0 b.1, four-all rs a.1 b.2)

-- ---- what is read was written

drop-two : (a b : ℕ) (t : List ℕ) (m : ℕ) → drop (2 + m) (a ∷ b ∷ t) ≡ drop m t
drop-two a b t m = sym (drop-drop m 2 (a ∷ b ∷ t))

pair-two : (a b : ℕ) (t : List ℕ) → let n = length_at (a ∷ b ∷ t) in pair_at (a ∷ b ∷ t) ≡ pair_of (take n t) (take n (drop n t))
pair-two a b t = ap (λ (u : List ℕ). pair_of (take (length_at (a ∷ b ∷ t)) t) (take (length_at (a ∷ b ∷ t)) u)) (drop-two a b t (length_at (a ∷ b ∷ t)))

-- two frames and what comes after them
apart : (t : List ℕ) (n : ℕ) → t ≡ take n t ++ take n (drop n t) ++ drop (n + n) t
apart t n = sym (take-append-drop (n + n) t) ∙ ap (λ (u : List ℕ). u ++ drop (n + n) t) (take-add n n t)

record Back (s : List ℕ) (rs : List Pair) : Type 0 where
  pub fine : AllFine rs
  pub bytes : AllBytes rs
  pub is : s ≡ all_written rs

back_none : (s : List ℕ) (rs : List Pair) → length s ≡ 0 → these [] ≡ these rs → Back s rs
unfolding AllFine AllBytes each
back_none [] [] e q = record { fine = tt; bytes = tt; is = refl }
back_none [] (r ∷ rs) e q = let z : [] ≡ r ∷ rs = cc in let l : 0 ≡ suc (length rs) = ap length z in absurd (omega arith)
back_none (b ∷ s) rs e q = absurd (omega arith)

-- a record that was read, before what is written
back_one : (s : List ℕ) (qs : List Pair) → Bytes s → whole s ≡ true → Back (drop (size_at s) s) qs → Back s (pair_at s ∷ qs)
unfolding AllFine AllBytes each Bytes whole
back_one [] qs b w k = absurd (false≢true w)
back_one (x ∷ []) qs b w k = absurd (false≢true w)
back_one (x ∷ y ∷ t) qs b w k =
    let s = x ∷ y ∷ t in
    let n = length_at s in
    let r = in-range 4 256 n (both_left _ _ (both_right (leb 2 (length s)) _ w)) in
    let l = leb-true (size_at s) (length s) (both_right (between 4 256 n) _ (both_right (leb 2 (length s)) _ w)) in
    let ln : length (take n t) ≡ n = length-take n t ∙ omega arith in
    let hi : x ≡ length (take n t) / 256 = omega (arith, b.0, b.1) in
    let lo : y ≡ length (take n t) % 256 = omega (arith, b.0, b.1) in
    let rest : drop (n + n) t ≡ all_written qs = sym (drop-two x y t (n + n)) ∙ k.is in
    record {
      fine = (fine-at s r.0 r.1 l, k.fine);
      bytes = (bytes_take n t b.1.1, bytes_take n _ (bytes_drop (2 + n) s b), k.bytes);
      is =
          ap (λ (u : List ℕ). x ∷ y ∷ u) (apart t n ∙ ap (λ (u : List ℕ). take n t ++ take n (drop n t) ++ u) rest)
          ∙ ap₂ (λ (i j : ℕ). i ∷ j ∷ (take n t ++ take n (drop n t) ++ all_written qs)) hi lo
          ∙ ap (λ (p : Pair). written p ++ all_written qs) (sym (pair-two x y t));
    }

back-pick : (s : List ℕ) (rs : List Pair) (i : Input) → pick (eqb (length s) 0) (these []) i ≡ these rs → (i ≡ these rs → Back s rs) → Back s rs
back-pick s rs i e onward = go (eqb (length s) 0) refl e
  where
    go : (t : Bool) → eqb (length s) 0 ≡ t → pick t (these []) i ≡ these rs → Back s rs
    go true q z = back_none s rs (eqb-true (length s) 0 q) z
    go false q z = onward z

not-bad : (rs : List Pair) → bad ≡ these rs → ⊥
not-bad rs e = let z : ◌≡◌ {A = ℕ} 0 1 = cc in omega arith

back-after : (s : List ℕ) (rs : List Pair) → Bytes s → whole s ≡ true → (i : Input) → ((qs : List Pair) → i ≡ these qs → Back (drop (size_at s) s) qs)
    → after (pair_at s ∷ []) i ≡ these rs → Back s rs
unfolding after
back-after s rs b w bad ih e = absurd (not-bad rs e)
back-after s rs b w (these qs) ih e = let z : pair_at s ∷ qs ≡ rs = cc in subst (Back s) z (back_one s qs b w (ih qs refl))

read_back : (n : ℕ) (s : List ℕ) (rs : List Pair) → Bytes s → at_most n s ≡ these rs → Back s rs
unfolding at_most
read_back zero s rs b e = back-pick s rs bad e (λ z. absurd (not-bad rs z))
read_back (suc n) s rs b e = back-pick s rs _ e (go (read_back n) (whole s) refl)
  where
    next : List ℕ
    next = drop (size_at s) s

    go : ((s₁ : List ℕ) (qs : List Pair) → Bytes s₁ → at_most n s₁ ≡ these qs → Back s₁ qs) → (t : Bool) → whole s ≡ t
        → pick t (after (pair_at s ∷ []) (at_most n next)) bad ≡ these rs → Back s rs
    go ih true w z = back-after s rs b w (at_most n next) (λ qs. ih next qs (bytes_drop (size_at s) s b)) z
    go ih false w z = absurd (not-bad rs z)

pub written-is-read : WrittenIsRead
written-is-read s rs b e = (read_back limit s rs b e).is

pub four-for-each-missed : FourForEachMissed
four-for-each-missed s rs b e = let k = read_back limit s rs b e in four-all rs k.fine k.bytes

-- ---- what was written is read

length-written : (p : Pair) → length_at (written p) ≡ length p.sent
length-written p = omega arith

pair-written : (p : Pair) → Fine p → pair_at (written p) ≡ p
pair-written p fine =
    let f = p.sent in
    let g = p.received in
    let both-frames = f ++ g in
    pair-two (length f / 256) (length f % 256) both-frames
    ∙ ap (λ (n : ℕ). pair_of (take n both-frames) (take n (drop n both-frames))) (length-written p)
    ∙ ap₂ pair_of (take_at f g (length f) refl) (ap (take (length f)) (drop_at f g (length f) refl) ∙ take_all (length f) g (omega (arith, fine.alike)))

write_read : (n : ℕ) (rs : List Pair) → AllFine rs → length rs ≤ n → at_most n (all_written rs) ≡ these rs
unfolding AllFine each after
write_read n [] a l = at-end n
write_read zero (p ∷ rs) a l = absurd (omega arith)
write_read (suc n) (p ∷ rs) a l =
    let fine = a.0 in
    let e = length-written p in
    at-whole (written p) (all_written rs) (omega (arith, fine.least)) (omega (arith, fine.most))
    (omega (arith, fine.alike, length-append p.sent p.received)) n
    ∙ ap₂ (λ (q : Pair) (i : Input). after (q ∷ []) i) (pair-written p fine) (write_read n rs a.1 (omega arith))

pub reads-written : ReadsWritten
reads-written rs a l = write_read limit rs a l

-- ---- pieces

run-hears : (ps : List (List ℕ)) (s : List ℕ) (r end : Reader) (room room₁ : List ℕ) → 514 ≤ length room → Heard s r room → Run r room ps end room₁
    → Heard (s ++ joined ps) end room₁
unfolding each
run-hears [] s r end room room₁ big h none = subst (λ (x : List ℕ). Heard x r room) (sym (append-nil s)) h
run-hears (p ∷ ps) s r end room room₁ big h (more {r₁ = m} {room₁ = n} k run) =
    subst (λ (x : List ℕ). Heard x end room₁) (append_assoc s p (joined ps))
    (run-hears ps (s ++ p) m end n room₁ (omega (arith, k.kept)) (k.heard big s h) run)

pub cuts-dont-matter : CutsDontMatter
cuts-dont-matter ps r r₁ room room₁ o big starts run finishes = finishes (joined ps) room₁ (run-hears ps [] r r₁ room room₁ big (starts room) run)

-- ---- nothing was heard

progress-eq : {a b : Report} {m n : ℕ} → a ≡ b → m ≡ n → progress a m ≡ progress b n
progress-eq p q = cc

nothing_is : (r : Reader) → Heard [] r [] → r ≡ Ok (progress (numbers 0 0 0 0 0) 0)
unfolding sum after
nothing_is (Err e) b = absurd (not-bad [] (sym (b []) ∙ at-end limit))
nothing_is (Ok p) g =
    let rs = g.records in
    let n : p.have ≡ 0 = omega (arith, g.within) in
    let left : take p.have [] ++ [] ≡ [] = ap (λ (k : ℕ). take k [] ++ []) n in
    let all : these [] ≡ these rs =
    sym (at-end limit) ∙ g.between.next [] ∙ ap (λ (u : List ℕ). after rs (at_most (limit - length rs) u)) left ∙ ap (after rs) (at-end (limit - length rs)) ∙ after-these rs in
    let none_of : rs ≡ [] = cc in
    ap Ok (progress-eq (g.report_is ∙ ap report_of none_of) n)

pub starts-once : StartsOnce
starts-once r q hr hq = nothing_is r (hr []) ∙ sym (nothing_is q (hq []))

-- ---- record by record

stepped : (ps : List Pair) (rs : List Pair) (r r₁ : Report) → AllFine rs → AllFine ps → length rs + length ps ≤ limit → r ≡ report_of rs
    → Stepped r ps r₁ → r₁ ≡ report_of (rs ++ ps)
unfolding AllFine
stepped [] rs r r₁ a b l e none = e ∙ ap report_of (sym (append-nil rs))
stepped (p ∷ ps) rs r r₁ a b l e (more {r₁ = m} k next) =
    stepped ps (rs ++ (p ∷ [])) m r₁ (fine_more rs p a b.0) b.1 (omega (arith, length-append rs (p ∷ []))) (k rs a (omega arith) e b.0) next
    ∙ ap report_of (append_assoc rs (p ∷ []) ps)

pub step-by-step : StepByStep
unfolding sum AllFine
step-by-step ps r a l s = stepped ps [] (numbers 0 0 0 0 0) r tt a (omega arith) refl s
