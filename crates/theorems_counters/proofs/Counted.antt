-- The statements of specs/History: a call is its kind, and calls in a row are counted by their kinds. Assumes nothing.
use Prim.Native.Nat.{ℕ, ◌+◌, ◌≤◌, ◌<◌, min}
use mathlib.Core.Bool.{Bool, true, false, false≢true}
use mathlib.Core.List.{List, [], ◌∷◌, ◌++◌, map}
use mathlib.Core.Path.{◌≡◌, refl, sym, ap, subst, ◌∙◌}
use native.Mathlib.Omega.{arith}
use borrow.Author.Tests.{eq-eqb, eqb-true}
use lib.Dec.{eqb}
use lib.ListN.{length}
use Rattle.rules.specs.Choice.{pick}
use Rattle.rules.specs.Given.{Given, gives, refused}
use Rattle.rules.specs.Tests.{Test, ◌unless◌, first}
use Rattle.rules.proofs.Choose.{pick_yes, pick_no, pick_same, pick_all}
use Rattle.rules.proofs.Tests.{first-passed}
use Rattle.table_registers.specs.Operation.{Judge}
use Rattle.table_registers.specs.Profile.{takes}
use Rattle.station.specs.Site.{Asked, wrong, tells, is_good, done}
use Rattle.station.specs.Outcome.{Outcome, silent, sent}
use Rattle.station.specs.Station.{call_tests, received, station}
use Rattle.station.specs.declared.Whom.{Whom}
use Rattle.station.specs.declared.Whom.TheVariants.{This, All, Other}
use Rattle.station.proofs.Calls.{received-here}
use Rattle.modbus_body.specs.Body.{function, functions, body_asks, exceptions, reply_to}
use Rattle.modbus_counters.specs.Counters.{more, counters, cleared, Fate, stopped, came, counted, excepted}
use Rattle.modbus_counters.specs.Diagnosis as dg
use Rattle.modbus_counters.specs.Diagnosis.{diagnosis_tests, diagnosed, asks_clear}
use Rattle.modbus_counters.specs.declared.Counters.{Counters}
use Rattle.modbus_line.specs.Framing.{line_asks, answered, Framing, whom_at, frame_tests, modbus}
use Rattle.modbus_line.specs.Calls.{fate, shown, left, counters_after}
use Rattle.theorems_counters.specs.History.{Turn, body_of, fate_of, answer_of, outcome_of, leaves, after, Kind, uncounted, wrong_check, for_other, for_all, good_reply, exception_reply, clear, kind, kind_of, is_clear, any_clear, since_clear, history, tally, plus, total, cut, good, good_replies, History, Onward, Shows, Balance, Since, Went, Replies, Silences, CountersSame}

-- ---- a call, by its kind

-- what a call of a kind leaves in the counters
abbrev step : Kind → Counters → Counters
step uncounted c = c
step wrong_check c = counted (stopped 11) c
step for_other c = counted (came Other) c
step for_all c = counted (came All) c
step good_reply c = counted (came This) c
step exception_reply c = excepted (counted (came This) c)
step clear c = cleared

same_good : (ts : List Test) (judge : Judge) (w x y : List ℕ) → is_good (done exceptions judge w (first wrong ts (tells x))).says ≡ is_good (done exceptions judge w (first wrong ts (tells y))).says
unfolding done
same_good [] judge w x y = refl
same_good ((k unless true) ∷ ts) judge w x y = same_good ts judge w x y
same_good ((k unless false) ∷ ts) judge w x y = refl

-- whether a reply is good does not hang on the counters
answered-good : (c d : Counters) (judge : Judge) (w b : List ℕ) → is_good (answered c judge w b).says ≡ is_good (answered d judge w b).says
unfolding line_asks diagnosed
answered-good c d judge w b = go (eqb (function b) 0x08)
  where
    go : (t : Bool) → is_good (done exceptions judge w (pick t (diagnosed c b) (body_asks functions b))).says ≡ is_good (done exceptions judge w (pick t (diagnosed d b) (body_asks functions b))).says
    go true = same_good (diagnosis_tests b) judge w _ _
    go false = refl

own_is : (g z : Bool) (c d : Counters) → counted (came This) c ≡ d → pick g (pick z cleared d) (excepted d) ≡ step (pick g (pick z clear good_reply) exception_reply) c
own_is true true c d e = refl
own_is true false c d e = sym e
own_is false true c d e = ap excepted (sym e)
own_is false false c d e = ap excepted (sym e)

fate-is : (f : Fate) (g : Bool) (b : List ℕ) (c : Counters) → dg.after f g b (counted f c) ≡ step (kind f (asks_clear b) g) c
unfolding dg.after dg.replied counted
fate-is (stopped k) g b c = at (eqb k 11)
  where
    at : (t : Bool) → pick t (counters c.bus (more c.damaged) c.exceptions c.own c.unanswered) c ≡ step (pick t wrong_check uncounted) c
    at true = refl
    at false = refl
fate-is (came Other) g b c = refl
fate-is (came All) g b c = refl
fate-is (came This) g b c = own_is g (asks_clear b) c (counted (came This) c) refl

-- 1, 2 and 3 count nothing
abbrev Not11 : List Test → Type 0
Not11 [] = Unit {0}
Not11 ((k unless t) ∷ ts) = (eqb k 11 ≡ false) × Not11 ts

tests-count : (ts : List Test) (f : Fate) (z g : Bool) (c x : Counters) → Not11 ts → x ≡ step (kind f z g) c → first (λ k. c) ts x ≡ step (kind (first stopped ts f) z g) c
tests-count [] f z g c x n e = e
tests-count ((k unless true) ∷ ts) f z g c x n e = tests-count ts f z g c x n.1 e
tests-count ((k unless false) ∷ ts) f z g c x n e = ap (λ (t : Bool). step (pick t wrong_check uncounted) c) (sym n.0)

leaves-is : (t : Turn) (c : Counters) → leaves t c ≡ step (kind_of t) c
unfolding counters_after left kind_of fate_of
leaves-is t c =
    let m : Framing = t.framing in
    let own : ℕ = t.site.own in
    let heard : Counters = shown m own t.frame c in
    let g : Bool = is_good (answered heard t.site.judge t.words (body_of t)).says in
    tests-count (call_tests 247 513 t.site (length t.words) (length t.room)) (fate m own t.frame) (asks_clear (body_of t)) g c _ (refl, (refl, (refl, (refl, (refl, tt)))))
    (fate-is (fate m own t.frame) g (body_of t) c)
    ∙ ap (λ (x : Bool). step (kind (fate_of t) (asks_clear (body_of t)) x) c) (answered-good heard cleared t.site.judge t.words (body_of t))

-- ---- calls in a row, by their kinds

abbrev run : Counters → List Kind → Counters
run c [] = c
run c (k ∷ ks) = run (step k c) ks

after_is : (c : Counters) (ts : List Turn) → after c ts ≡ run c (map kind_of ts)
after_is c [] = refl
after_is c (t ∷ ts) = after_is (leaves t c) ts ∙ ap (λ (d : Counters). run d (map kind_of ts)) (leaves-is t c)

five : {b b1 d d1 e e1 o o1 u u1 : ℕ} → b ≡ b1 → d ≡ d1 → e ≡ e1 → o ≡ o1 → u ≡ u1 → counters b d e o u ≡ counters b1 d1 e1 o1 u1
five p q r s t = cc

-- one more of what is cut, or none
one : (n : ℕ) → more (min n 0xFFFF) ≡ min (n + 1) 0xFFFF
unfolding more
one n = omega arith

none : (n : ℕ) → min n 0xFFFF ≡ min (n + 0) 0xFFFF
none n = omega arith

step_is : (k : Kind) (s : Counters) → is_clear k ≡ false → step k (cut s) ≡ cut (plus s (tally k))
unfolding counted excepted
step_is uncounted s h = five (none s.bus) (none s.damaged) (none s.exceptions) (none s.own) (none s.unanswered)
step_is wrong_check s h = five (none s.bus) (one s.damaged) (none s.exceptions) (none s.own) (none s.unanswered)
step_is for_other s h = five (one s.bus) (none s.damaged) (none s.exceptions) (none s.own) (none s.unanswered)
step_is for_all s h = five (one s.bus) (none s.damaged) (none s.exceptions) (one s.own) (one s.unanswered)
step_is good_reply s h = five (one s.bus) (none s.damaged) (none s.exceptions) (one s.own) (none s.unanswered)
step_is exception_reply s h = five (one s.bus) (none s.damaged) (one s.exceptions) (one s.own) (none s.unanswered)
step_is clear s h = absurd (false≢true (sym h))

pick_first : (b c : Bool) → pick b true c ≡ false → b ≡ false
pick_first true c e = e
pick_first false c e = refl

pick-rest : (b c : Bool) → pick b true c ≡ false → c ≡ false
pick-rest true c e = absurd (false≢true (sym e))
pick-rest false c e = e

plus_assoc : (c d e : Counters) → plus (plus c d) e ≡ plus c (plus d e)
plus_assoc c d e = five (omega arith) (omega arith) (omega arith) (omega arith) (omega arith)

plus_none : (c : Counters) → c ≡ plus c cleared
plus_none c = five (omega arith) (omega arith) (omega arith) (omega arith) (omega arith)

none-plus : (c : Counters) → plus cleared c ≡ c
none-plus c = five (omega arith) (omega arith) (omega arith) (omega arith) (omega arith)

-- without a clear the counts go on
run_on : (ks : List Kind) (s : Counters) → any_clear ks ≡ false → run (cut s) ks ≡ cut (plus s (total ks))
run_on [] s h = ap (λ (c : Counters). cut c) (plus_none s)
run_on (k ∷ ks) s h =
    ap (λ (c : Counters). run c ks) (step_is k s (pick_first (is_clear k) (any_clear ks) h))
    ∙ run_on ks (plus s (tally k)) (pick-rest (is_clear k) (any_clear ks) h)
    ∙ ap (λ (c : Counters). cut c) (plus_assoc s (tally k) (total ks))

-- from zero they are the counts
from_zero : (ks : List Kind) → any_clear ks ≡ false → run cleared ks ≡ cut (total ks)
from_zero ks h = run_on ks cleared h ∙ ap (λ (c : Counters). cut c) (none-plus (total ks))

-- ---- the history

at_clear : (ks : List Kind) (c : Counters) (k : Kind) (b : Bool) → any_clear ks ≡ b → (any_clear ks ≡ true → run (step k c) ks ≡ cut (total (since_clear ks))) → pick (is_clear k) true (any_clear ks) ≡ true
    → run (step k c) ks ≡ cut (total (pick (any_clear ks) (since_clear ks) (pick (is_clear k) ks (k ∷ ks))))
at_clear ks c k true e f g = f e ∙ ap (λ (x : List Kind). cut (total x)) (sym (pick_yes (any_clear ks) (since_clear ks) (pick (is_clear k) ks (k ∷ ks)) e))
at_clear ks c clear false e f g = from_zero ks e ∙ ap (λ (x : List Kind). cut (total x)) (sym (pick_no (any_clear ks) (since_clear ks) ks e))
at_clear ks c uncounted false e f g = absurd (false≢true (sym e ∙ g))
at_clear ks c wrong_check false e f g = absurd (false≢true (sym e ∙ g))
at_clear ks c for_other false e f g = absurd (false≢true (sym e ∙ g))
at_clear ks c for_all false e f g = absurd (false≢true (sym e ∙ g))
at_clear ks c good_reply false e f g = absurd (false≢true (sym e ∙ g))
at_clear ks c exception_reply false e f g = absurd (false≢true (sym e ∙ g))

-- with a clear it does not matter what was before
run-since : (ks : List Kind) (c : Counters) → any_clear ks ≡ true → run c ks ≡ cut (total (since_clear ks))
run-since [] c h = absurd (false≢true h)
run-since (k ∷ ks) c h = at_clear ks c k (any_clear ks) refl (run-since ks (step k c)) h

all-of-it : (ks : List Kind) → any_clear ks ≡ false → since_clear ks ≡ ks
all-of-it [] h = refl
all-of-it (k ∷ ks) h =
    pick_no (any_clear ks) (since_clear ks) (pick (is_clear k) ks (k ∷ ks)) (pick-rest (is_clear k) (any_clear ks) h)
    ∙ pick_no (is_clear k) ks (k ∷ ks) (pick_first (is_clear k) (any_clear ks) h)

run_is : (ks : List Kind) (b : Bool) → any_clear ks ≡ b → run cleared ks ≡ cut (total (since_clear ks))
run_is ks true h = run-since ks cleared h
run_is ks false h = from_zero ks h ∙ ap (λ (x : List Kind). cut (total x)) (sym (all-of-it ks h))

pub counters-are : History
counters-are ts = after_is cleared ts ∙ run_is (map kind_of ts) (any_clear (map kind_of ts)) refl

fits : (n : ℕ) → n ≤ 0xFFFF → n ≡ min n 0xFFFF
fits n h = omega (arith, h)

pub onward : Onward
onward = record {
  goes_on = λ c ts f h.
      let start : c ≡ cut c = five (fits c.bus f.bus) (fits c.damaged f.damaged) (fits c.exceptions f.exceptions) (fits c.own f.own) (fits c.unanswered f.unanswered) in
      after_is c ts ∙ ap (λ (d : Counters). run d (map kind_of ts)) start ∙ run_on (map kind_of ts) c h;
  forgets = λ c ts h. after_is c ts ∙ run-since (map kind_of ts) c h;
}

-- ---- since the last clear

any-yes : (older newer : List Kind) → any_clear (older ++ (clear ∷ newer)) ≡ true
any-yes [] newer = refl
any-yes (k ∷ older) newer = ap (λ (b : Bool). pick (is_clear k) true b) (any-yes older newer) ∙ pick_same (is_clear k) true

after-clear : (older newer : List Kind) → any_clear newer ≡ false → since_clear (older ++ (clear ∷ newer)) ≡ newer
after-clear [] newer h = pick_no (any_clear newer) (since_clear newer) newer h
after-clear (k ∷ older) newer h =
    let ks : List Kind = older ++ (clear ∷ newer) in
    pick_yes (any_clear ks) (since_clear ks) (pick (is_clear k) ks (k ∷ ks)) (any-yes older newer) ∙ after-clear older newer h

no-clear : (ks : List Kind) → any_clear (since_clear ks) ≡ false
no-clear [] = refl
no-clear (k ∷ ks) =
    pick_all (λ (x : List Kind). any_clear x ≡ false) (any_clear ks) _ _ (λ _. no-clear ks)
    (λ e. pick_all (λ (x : List Kind). any_clear x ≡ false) (is_clear k) _ _ (λ _. e) (λ f. pick_no (is_clear k) true (any_clear ks) f ∙ e))

pub since : Since
since = record { all-of-it = all-of-it; after-clear = after-clear; no-clear = no-clear }

-- ---- the balance

each-balances : (k : Kind) → is_clear k ≡ false → (tally k).own ≡ good k + (tally k).exceptions + (tally k).unanswered
each-balances uncounted h = refl
each-balances wrong_check h = refl
each-balances for_other h = refl
each-balances for_all h = refl
each-balances good_reply h = refl
each-balances exception_reply h = refl
each-balances clear h = absurd (false≢true (sym h))

balances : (ks : List Kind) → any_clear ks ≡ false → (total ks).own ≡ good_replies ks + (total ks).exceptions + (total ks).unanswered
balances [] h = refl
balances (k ∷ ks) h = omega (arith, each-balances k (pick_first (is_clear k) (any_clear ks) h), balances ks (pick-rest (is_clear k) (any_clear ks) h))

cut-balance : (o g e n : ℕ) → o ≡ g + e + n → min o 0xFFFF < 0xFFFF → min o 0xFFFF ≡ g + min e 0xFFFF + min n 0xFFFF
cut-balance o g e n x h = omega (arith, x, h)

pub balance : Balance
balance ts =
    let ks : List Kind = history ts in
    subst (λ (c : Counters). c.own < 0xFFFF → c.own ≡ good_replies ks + c.exceptions + c.unanswered) (sym (counters-are ts))
    (cut-balance (total ks).own (good_replies ks) (total ks).exceptions (total ks).unanswered (balances ks (no-clear (map kind_of ts))))

-- ---- the own station's calls

-- a number that tells two sides apart
clash : {A : Type 0} → ◌≡◌ {A = ℕ} 0 1 → A
clash e = absurd (omega (arith, e))

abbrev is_reply : Kind → ℕ
is_reply uncounted = 0
is_reply wrong_check = 0
is_reply for_other = 0
is_reply for_all = 0
is_reply good_reply = 1
is_reply exception_reply = 1
is_reply clear = 1

-- a reply is of a frame that came to the own station
came-own : (f : Fate) (z g : Bool) → is_reply (kind f z g) ≡ 1 → f ≡ came This
came-own (stopped k) z g e = clash (sym (at (eqb k 11)) ∙ e)
  where
    at : (b : Bool) → is_reply (pick b wrong_check uncounted) ≡ 0
    at true = refl
    at false = refl
came-own (came Other) z g e = clash e
came-own (came All) z g e = clash e
came-own (came This) z g e = refl

own-kind : (t : Turn) (k : Kind) → kind_of t ≡ k → is_reply k ≡ 1 → fate_of t ≡ came This
unfolding kind_of
own-kind t k e h = came-own (fate_of t) _ _ (ap (λ (x : Kind). is_reply x) e ∙ h)

good_of : (z g : Bool) (k : Kind) (b : Bool) → pick g (pick z clear good_reply) exception_reply ≡ k → good k ≡ pick b 1 0 → g ≡ b
good_of z true k true e h = refl
good_of z false k false e h = refl
good_of true true k false e h = clash (sym (ap (λ (x : Kind). good x) e ∙ h))
good_of false true k false e h = clash (sym (ap (λ (x : Kind). good x) e ∙ h))
good_of z false k true e h = clash (ap (λ (x : Kind). good x) e ∙ h)

own-good : (t : Turn) (c : Counters) (k : Kind) (b : Bool) → kind_of t ≡ k → is_reply k ≡ 1 → good k ≡ pick b 1 0 → is_good (answer_of t c).says ≡ b
unfolding kind_of
own-good t c k b e r h =
    let judge : Judge = t.site.judge in
    let g : Bool = is_good (answered cleared judge t.words (body_of t)).says in
    answered-good (shown t.framing t.site.own t.frame c) cleared judge t.words (body_of t)
    ∙ good_of (asks_clear (body_of t)) g k b (ap (λ (f : Fate). kind f (asks_clear (body_of t)) g) (sym (own-kind t k e r)) ∙ e) h

-- ---- what stopped a call, or that nothing did

abbrev is_came : Fate → ℕ
is_came (stopped k) = 0
is_came (came w) = 1

abbrev stopped_by : Fate → Given
stopped_by (stopped k) = refused k
stopped_by (came w) = gives 0

-- none of the tests fails where a frame came through them
came-through : (ts : List Test) (f : Fate) (w : Whom) → first stopped ts f ≡ came w → (first refused ts (gives 0) ≡ gives 0) × (f ≡ came w)
came-through [] f w e = (refl, e)
came-through ((k unless true) ∷ ts) f w e = came-through ts f w e
came-through ((k unless false) ∷ ts) f w e = clash (ap (λ (x : Fate). is_came x) e)

abbrev whom_of : Fate → Whom
whom_of (stopped k) = Other
whom_of (came w) = w

module _ (t : Turn) (c : Counters) where
  abbrev m : Framing
  m = t.framing

  abbrev heard : Counters
  heard = shown m t.site.own t.frame c

  abbrev calls : List Test
  calls = call_tests 247 513 t.site (length t.words) (length t.room)

  sent-here : fate_of t ≡ came This → outcome_of t c ≡ sent t.room (m.framed t.site.own (reply_to (body_of t) (answer_of t c).says)) (answer_of t c).words
  unfolding fate_of fate station
  sent-here e =
      let outer = came-through calls (fate m t.site.own t.frame) This e in
      let inner = came-through (frame_tests m t.frame) (came (whom_at (m.to t.frame) t.site.own)) This outer.1 in
      first-passed calls 0 0 outer.0 (silent t.words t.room) _
      ∙ received-here (modbus m heard) t.site t.words t.frame t.room inner.0 (ap (λ (f : Fate). whom_of f) inner.1)

  stops_at : (ts : List Test) (x : Fate) (o : Outcome) (k : ℕ) → first stopped ts x ≡ stopped k → (x ≡ stopped k → o ≡ silent t.words t.room k)
      → first (silent t.words t.room) ts o ≡ silent t.words t.room k
  stops_at [] x o k e h = h e
  stops_at ((j unless true) ∷ ts) x o k e h = stops_at ts x o k e h
  stops_at ((j unless false) ∷ ts) x o k e h = let n : j ≡ k = same_number (ap (λ (f : Fate). stopped_by f) e) in ap (λ (i : ℕ). silent t.words t.room i) n
    where
      same_number : refused j ≡ refused k → j ≡ k
      same_number e = cc

  stopped-here : (k : ℕ) → fate_of t ≡ stopped k → outcome_of t c ≡ silent t.words t.room k
  unfolding fate_of fate station received
  stopped-here k e =
      stops_at calls (fate m t.site.own t.frame) _ k e
      (λ f. stops_at (frame_tests m t.frame) (came (whom_at (m.to t.frame) t.site.own)) _ k f (λ g. clash (sym (ap (λ (x : Fate). is_came x) g))))

eleven : (f : Fate) (z g : Bool) → kind f z g ≡ wrong_check → f ≡ stopped 11
eleven (stopped k) z g e = at (eqb k 11) refl e
  where
    at : (b : Bool) → eqb k 11 ≡ b → pick b wrong_check uncounted ≡ wrong_check → stopped k ≡ stopped 11
    at true h q = ap stopped (eqb-true k 11 h)
    at false h q = clash (ap (λ (x : Kind). (tally x).damaged) q)
eleven (came Other) z g e = clash (ap (λ (x : Kind). (tally x).damaged) e)
eleven (came All) z g e = clash (ap (λ (x : Kind). (tally x).damaged) e)
eleven (came This) true true e = clash (ap (λ (x : Kind). (tally x).damaged) e)
eleven (came This) false true e = clash (ap (λ (x : Kind). (tally x).damaged) e)
eleven (came This) z false e = clash (ap (λ (x : Kind). (tally x).damaged) e)

wrong-is-11 : (t : Turn) → kind_of t ≡ wrong_check → fate_of t ≡ stopped 11
unfolding kind_of
wrong-is-11 t e = eleven (fate_of t) _ _ e

pub silences : Silences
silences = record { stopped_by = stopped-here; wrong-checks = wrong-is-11 }

went : (k : Kind) (b : Bool) → is_reply k ≡ 1 → good k ≡ pick b 1 0 → Went k b
went k b r h t c e = (sent-here t c (own-kind t k e r), own-good t c k b e r h)

pub replies : Replies
replies = record { good-replies = went good_reply true refl refl; exception-replies = went exception_reply false refl refl; clears = went clear true refl refl }

-- ---- what 08 shows

after-one-more : (c : Counters) (ts : List Turn) (t : Turn) → after c (ts ++ (t ∷ [])) ≡ leaves t (after c ts)
after-one-more c [] t = refl
after-one-more c (s ∷ ts) t = after-one-more (leaves s c) ts t

diagnoses : (c : Counters) (judge : Judge) (w b : List ℕ) → function b ≡ 0x08 → (answered c judge w b).says ≡ (done exceptions judge w (diagnosed c b)).says
unfolding line_asks
diagnoses c judge w b e = ap (λ (a : Asked). (done exceptions judge w a).says) (pick_yes (eqb (function b) 0x08) _ _ (eq-eqb (function b) 0x08 e))

shown-is : (t : Turn) (c : Counters) → kind_of t ≡ good_reply → shown t.framing t.site.own t.frame c ≡ leaves t c
unfolding fate_of
shown-is t c e =
    let own = came-through (call_tests 247 513 t.site (length t.words) (length t.room)) (fate t.framing t.site.own t.frame) This (own-kind t good_reply e refl) in
    ap (λ (f : Fate). counted f c) own.1 ∙ sym (leaves-is t c ∙ ap (λ (k : Kind). step k c) e)

pub shows : Shows
shows ts t e f =
    let judge : Judge = t.site.judge in
    diagnoses (shown t.framing t.site.own t.frame (after cleared ts)) judge t.words (body_of t) f
    ∙ ap (λ (c : Counters). (done exceptions judge t.words (diagnosed c (body_of t))).says)
    (shown-is t (after cleared ts) e ∙ sym (after-one-more cleared ts t) ∙ counters-are (ts ++ (t ∷ [])))

-- ---- without a profile, by definition

pub counters-same : CountersSame
unfolding takes
counters-same m c attributes own words frame room = refl
