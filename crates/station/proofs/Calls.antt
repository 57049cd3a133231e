-- A call's two ways on: a number that changes nothing, or a frame that is answered. Assumes nothing.
use Prim.Native.Nat.{ℕ}
use mathlib.Core.Bool.{Bool, true, false}
use mathlib.Core.List.{List, [], ◌∷◌}
use mathlib.Core.Path.{◌≡◌, refl, sym, ap, subst, ◌∙◌}
use borrow.Author.Tests.{leb-true}
use lib.Dec.{eqb, leb}
use lib.ListN.{length}
use Rattle.rules.specs.Given.{gives, refused}
use Rattle.rules.specs.Choice.{both, between, all_between}
use Rattle.rules.specs.Tests.{Test, ◌unless◌, first}
use Rattle.table_addresses.specs.Catalogue.{table_limit}
use Rattle.rules.specs.declared.Refusal.{Refusal}
use Rattle.rules.proofs.Choose.{in-range}
use Rattle.rules.proofs.Tests.{first-append, first-refused, first-passed, passed}
use Rattle.station.specs.Site.{Site, Asked, writes, Says, is_good, Done}
use Rattle.station.specs.Outcome as outcome
use Rattle.station.specs.Outcome.{Outcome, silent, sent, carried, Is, Served}
use Rattle.station.specs.Station.{Format, call_tests, leaves, heeded, answer, ready_given, received, to_all, station, Fit}
use Rattle.station.specs.declared.Whom.TheVariants.{This, All, Other}
use Rattle.station.specs.declared.Answer.{Answer}
use Rattle.station.specs.declared.Answer.TheVariants as said
use Rattle.station.specs.declared.Ready.{Ready}
use Rattle.station.specs.declared.Ready.TheVariants.{Fine, Refused}

-- the same outcome, told in other words
pub is-as : {o p : Outcome} {a : Answer} {words room : List ℕ} → o ≡ p → Is p a words room → Is o a words room
is-as {a = a} {words} {room} e h = subst (λ (x : Outcome). Is x a words room) (sym e) h

-- a number that is given leaves words and room
pub is-silent : {o : Outcome} {words room : List ℕ} (r : Refusal) → o ≡ silent words room r.0 → Is o (said.Refused r) words room
is-silent r e = is-as e (record { answer-is = refl; words-is = refl; room-is = refl })

-- a message that stands in its room, with the words that were left
pub is-sent : {o : Outcome} {message : Says → List ℕ} {d : Done} {room : List ℕ} {n : ℕ} {words' room' : List ℕ}
    → o ≡ sent room (message d.says) d.words → Served message d room 0 n words' room' → Is o (said.Reply n) words' room'
is-sent e s = is-as e (record { answer-is = ap outcome.replied s.size; words-is = s.words-is; room-is = s.room })

-- what was carried out, with the words that were left
pub is_carried : {o : Outcome} {words room : List ℕ} → o ≡ carried room words → Is o said.CarriedOut words room
is_carried e = is-as e (record { answer-is = refl; words-is = refl; room-is = refl })

-- ---- to all

both_false : (a b : Bool) → b ≡ false → both a b ≡ false
both_false true b e = e
both_false false b e = refl

module _ (words room : List ℕ) (a : Asked) (d : Done) where
  -- what writes nothing is not heeded
  pub all_read : writes a ≡ false → to_all words room a d ≡ silent words room 12
  unfolding to_all
  all_read w = rw w

  -- nor is what would have got an error
  pub all-error : is_good d.says ≡ false → to_all words room a d ≡ silent words room 12
  unfolding to_all
  all-error g = ap (λ (b : Bool). first (silent words room) ((12 unless b) ∷ []) (carried room d.words)) (both_false (writes a) _ g)

  pub all_done : writes a ≡ true → is_good d.says ≡ true → to_all words room a d ≡ carried room d.words
  unfolding to_all
  all_done w g = rw (w, g)

-- ---- 1, 2 and 3

module _ (m : Format) (site : Site) (words frame room : List ℕ) where
  abbrev tests : List Test
  tests = call_tests m.highest m.room site (length words) (length room)

  -- a call that one of them stops
  pub not-ready : (r : Ready) (k : Refusal) → ready_given r ≡ first refused tests (gives 0) → r ≡ Refused k → Is (station m site words frame room) (said.Refused k) words room
  unfolding station
  not-ready r k e h = is-silent k (first-refused tests 0 k.0 (sym e ∙ ap ready_given h) (silent words room) (received m site words frame room))

  -- a call that goes on to its frame
  pub is-ready : (r : Ready) {a : Answer} {words' room' : List ℕ} → ready_given r ≡ first refused tests (gives 0) → r ≡ Fine → Is (received m site words frame room) a words' room' → Is (station m site words frame room) a words' room'
  unfolding station
  is-ready r e h i = is-as (first-passed tests 0 0 (sym e ∙ ap ready_given h) (silent words room) (received m site words frame room)) i

  -- its station and its room are fit
  pub ready-fit : (r : Ready) → ready_given r ≡ first refused tests (gives 0) → r ≡ Fine → Fit m site.own room
  ready-fit r e h =
      let third : Bool = all_between 0 3 site.attributes in
      let second : Bool = eqb (length site.attributes) (length words) in
      let station : Test = 2 unless between 1 m.highest site.own in
      let size : Test = 3 unless leb m.room (length room) in
      let one = passed 1 (leb (length words) table_limit) ((1 unless second) ∷ (1 unless third) ∷ station ∷ size ∷ []) 0 0 (sym e ∙ ap ready_given h) in
      let two = passed 1 second ((1 unless third) ∷ station ∷ size ∷ []) 0 0 one.1 in
      let three = passed 1 third (station ∷ size ∷ []) 0 0 two.1 in
      let own = passed 2 (between 1 m.highest site.own) (size ∷ []) 0 0 three.1 in
      let big = passed 3 (leb m.room (length room)) [] 0 0 own.1 in
      record { small = (in-range 1 m.highest site.own own.0).1; big = leb-true m.room (length room) big.0 }

  -- ---- the frame

  abbrev left : Done
  left = leaves m site words frame

  abbrev heeds : Bool
  heeds = heeded (m.whom site.own frame) (m.asked frame) left.says

  -- a number of the tests that come before the station's
  pub frame_refused : (r : Refusal) → first refused (m.tests frame) (gives 0) ≡ refused r.0 → Is (received m site words frame room) (said.Refused r) words room
  unfolding received
  frame_refused r e =
      is-silent r (first-append (silent words room) (m.tests frame) ((12 unless heeds) ∷ []) _ ∙ first-refused (m.tests frame) 0 r.0 e (silent words room) _)

  -- none of them: whom the frame is for decides
  pub frame-passed : {a : Answer} {words' room' : List ℕ} → first refused (m.tests frame) (gives 0) ≡ gives 0
      → Is (first (silent words room) ((12 unless heeds) ∷ []) (answer (m.whom site.own frame) room (m.reply site.own frame left.says) left.words)) a words' room'
      → Is (received m site words frame room) a words' room'
  unfolding received
  frame-passed e i =
      is-as (first-append (silent words room) (m.tests frame) ((12 unless heeds) ∷ []) _ ∙ first-passed (m.tests frame) 0 0 e (silent words room) _) i

  -- it is for another station
  pub frame-other : (r : Refusal) → r.0 ≡ 12 → first refused (m.tests frame) (gives 0) ≡ gives 0 → m.whom site.own frame ≡ Other → Is (received m site words frame room) (said.Refused r) words room
  frame-other r n e w = frame-passed e (is-silent r (rw (w, n)))

  -- it is for this one
  pub received-here : first refused (m.tests frame) (gives 0) ≡ gives 0 → m.whom site.own frame ≡ This
      → received m site words frame room ≡ sent room (m.reply site.own frame left.says) left.words
  unfolding received
  received-here e w =
      first-append (silent words room) (m.tests frame) ((12 unless heeds) ∷ []) _ ∙ first-passed (m.tests frame) 0 0 e (silent words room) _ ∙ rw w

  pub frame-answered : {n : ℕ} {words' room' : List ℕ} → first refused (m.tests frame) (gives 0) ≡ gives 0 → m.whom site.own frame ≡ This
      → Served (m.reply site.own frame) left room 0 n words' room'
      → Is (received m site words frame room) (said.Reply n) words' room'
  frame-answered e w s = is-sent (received-here e w) s

  -- it is for all
  pub frame-to-all : {a : Answer} {words' : List ℕ} → first refused (m.tests frame) (gives 0) ≡ gives 0 → m.whom site.own frame ≡ All
      → Is (to_all words room (m.asked frame) left) a words' room
      → Is (received m site words frame room) a words' room
  unfolding to_all
  frame-to-all e w i = frame-passed e (is-as (rw w) i)
