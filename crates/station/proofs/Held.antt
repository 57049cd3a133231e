-- The statements of specs/Statements. Assumes nothing.
use Prim.Native.Nat.{ℕ}
use mathlib.Core.Bool.{Bool, true, false}
use mathlib.Core.List.{List, [], ◌∷◌, ◌++◌}
use mathlib.Core.Path.{◌≡◌, refl, sym, ap, ◌∙◌}
use native.Mathlib.Omega.{arith}
use lib.ListN.{length}
use Rattle.rules.specs.Choice.{both}
use Rattle.rules.specs.Given.{Given, gives, refused}
use Rattle.rules.specs.Tests.{Test, ◌unless◌, first}
use Rattle.rules.proofs.Once.{once}
use Rattle.rules.proofs.Tests.{first-append, first-passed}
use Rattle.table_registers.specs.declared.Verdict.{Verdict}
use Rattle.table_registers.specs.declared.Verdict.TheVariants.{Granted, Lacking, Unfit}
use Rattle.table_registers.specs.Operation.{shows, words_after}
use Rattle.station.specs.Site.{Site, Asked, wrong, asks, tells, writes, is_good, error, said, done}
use Rattle.station.specs.Outcome.{Returned, replied, carried_out, numbered, given, Outcome, silent, sent, carried}
use Rattle.station.specs.Station.{Format, call_tests, leaves, heeded, frame_tests, answer, ready_given, received, station}
use Rattle.station.specs.Statements.{ErrorKeeps, RefusalsLeave, CarriedLeaves, Passes, ToAll, OneAnswer, OneReady}
use Rattle.station.specs.declared.Whom.{Whom}
use Rattle.station.specs.declared.Whom.TheVariants.{This, All, Other}
use Rattle.station.specs.declared.Answer.{Answer}
use Rattle.station.specs.declared.Answer.TheVariants as answered
use Rattle.station.specs.declared.Ready.{Ready}
use Rattle.station.specs.declared.Ready.TheVariants as ready

pub error-keeps : ErrorKeeps
unfolding done said words_after
error-keeps e judge words (wrong k) n h = refl
error-keeps e judge words (asks o reply) n h = go (judge words o) h
  where
    go : (v : Verdict) → said e (reply (shows o words)) v ≡ error n → words_after v o words ≡ words
    go Granted q = let z : ◌≡◌ {A = ℕ} 0 1 = cc in absurd (omega arith)
    go (Lacking i) q = refl
    go Unfit q = refl
error-keeps e judge words (tells t) n h = refl

-- a row of tests that refuse silently, before an outcome that does
stays : (words room : List ℕ) (ts : List Test) (o : Outcome) (k : ℕ) → (o.result ≡ numbered k → (o.words ≡ words) × (o.room ≡ room))
    → (first (silent words room) ts o).result ≡ numbered k → ((first (silent words room) ts o).words ≡ words) × ((first (silent words room) ts o).room ≡ room)
stays words room [] o k h e = h e
stays words room ((j unless true) ∷ ts) o k h e = stays words room ts o k h e
stays words room ((j unless false) ∷ ts) o k h e = (refl, refl)

-- a reply, and what was carried out, are no refusal
answers : (whom : Whom) (words room message words' : List ℕ) (k : ℕ) → (answer whom room message words').result ≡ numbered k
    → ((answer whom room message words').words ≡ words) × ((answer whom room message words').room ≡ room)
answers This words room message words' k e = let z : ◌≡◌ {A = ℕ} 0 1 = cc in absurd (omega arith)
answers All words room message words' k e = let z : ◌≡◌ {A = ℕ} 0 1 = cc in absurd (omega arith)
answers Other words room message words' k e = let z : ◌≡◌ {A = ℕ} 0 1 = cc in absurd (omega arith)

pub refusals-leave : RefusalsLeave
unfolding station received
refusals-leave m site words frame room k =
    stays words room (call_tests m.highest m.room site (length words) (length room)) (received m site words frame room) k
    (stays words room (frame_tests m site words frame) _ k (answers (m.whom site.own frame) words room (m.reply site.own frame (leaves m site words frame).says) (leaves m site words frame).words k))

-- ---- frames to all

abbrev Kept : List ℕ → Outcome → Type 0
Kept room o = o.result ≡ carried_out → o.room ≡ room

kept : (words room : List ℕ) (ts : List Test) (o : Outcome) → Kept room o → Kept room (first (silent words room) ts o)
kept words room [] o h = h
kept words room ((j unless true) ∷ ts) o h = kept words room ts o h
kept words room ((j unless false) ∷ ts) o h = λ e. refl

answer-kept : (whom : Whom) (room message words : List ℕ) → Kept room (answer whom room message words)
answer-kept This room message words e = let z : ◌≡◌ {A = ℕ} 0 1 = cc in absurd (omega arith)
answer-kept All room message words e = refl
answer-kept Other room message words e = let z : ◌≡◌ {A = ℕ} 0 1 = cc in absurd (omega arith)

pub carried-leaves : CarriedLeaves
unfolding station received
carried-leaves m site words frame room =
    kept words room (call_tests m.highest m.room site (length words) (length room)) (received m site words frame room)
    (kept words room (frame_tests m site words frame) (answer (m.whom site.own frame) room (m.reply site.own frame (leaves m site words frame).says) (leaves m site words frame).words)
    (answer-kept (m.whom site.own frame) room (m.reply site.own frame (leaves m site words frame).says) (leaves m site words frame).words))

-- tests that hold, before and behind
passes : (words room : List ℕ) (ts us : List Test) (o : Outcome) → Passes ts → first (silent words room) (ts ++ us) o ≡ first (silent words room) us o
passes words room ts us o h = first-append (silent words room) ts us o ∙ first-passed ts 0 0 h (silent words room) _

-- a frame that no test stops before whom it is for is looked at
heard : (m : Format) (site : Site) (words frame room : List ℕ) → Passes (call_tests m.highest m.room site (length words) (length room)) → Passes (m.tests frame)
    → station m site words frame room
    ≡ first (silent words room) ((12 unless heeded (m.whom site.own frame) (m.asked frame) (leaves m site words frame).says) ∷ [])
    (answer (m.whom site.own frame) room (m.reply site.own frame (leaves m site words frame).says) (leaves m site words frame).words)
unfolding station received
heard m site words frame room fit right =
    first-passed (call_tests m.highest m.room site (length words) (length room)) 0 0 fit (silent words room) _ ∙ passes words room (m.tests frame) _ _ right

-- what is asked to all, of which this is left
decides : (w g : Bool) (words room words' : List ℕ) → (first (silent words room) ((12 unless both w g) ∷ []) (carried room words')).result ≡ carried_out → (w ≡ true) × (g ≡ true)
decides true true words room words' e = (refl, refl)
decides true false words room words' e = let z : ◌≡◌ {A = ℕ} 0 1 = cc in absurd (omega arith)
decides false g words room words' e = let z : ◌≡◌ {A = ℕ} 0 1 = cc in absurd (omega arith)

pub to-all : ToAll
to-all m site words to_all to_own room s =
    let d = leaves m site words to_own in
    let same : leaves m site words to_all ≡ d = ap (λ (x : Asked). done m.errors site.judge words x) s.asked in
    let own : station m site words to_own room ≡ sent room (m.reply site.own to_own d.says) d.words = heard m site words to_own room s.fit s.right.1 ∙ rw s.whom.1 in
    let all : station m site words to_all room ≡ first (silent words room) ((12 unless both (writes (m.asked to_own)) (is_good d.says)) ∷ []) (carried room d.words) =
    heard m site words to_all room s.fit s.right.0 ∙ rw (s.whom.0, same, s.asked) in
    record {
      own = own;
      only = λ e. decides (writes (m.asked to_own)) (is_good d.says) words room d.words (sym (ap (λ (o : Outcome). o.result) all) ∙ e);
      such = λ h. all ∙ rw (h.0, h.1, own);
    }

-- ---- one answer only

abbrev answer_of : Returned → Answer
answer_of (replied n) = answered.Reply n
answer_of carried_out = answered.CarriedOut
answer_of (numbered k) = answered.Refused (record { 0 = k })

answer_of-given : (a : Answer) → answer_of (given a) ≡ a
answer_of-given (answered.Reply n) = refl
answer_of-given answered.CarriedOut = refl
answer_of-given (answered.Refused r) = refl

pub one_answer : OneAnswer
one_answer o a b w v r s p q =
    (once given answer_of answer_of-given o.result a b p.answer-is q.answer-is, p.words-is ∙ sym q.words-is, p.room-is ∙ sym q.room-is)

abbrev ready_of : Given → Ready
ready_of (gives n) = ready.Fine
ready_of (refused k) = ready.Refused (record { 0 = k })

ready_of-given : (r : Ready) → ready_of (ready_given r) ≡ r
ready_of-given ready.Fine = refl
ready_of-given (ready.Refused r) = refl

pub one-ready : OneReady
one-ready = once ready_given ready_of ready_of-given
