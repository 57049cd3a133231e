-- A Modbus call's ways on: a number that counts or does not, or a frame that counts and is answered. One law for either frame. Assumes nothing.
use mathlib.Core.List.{List}
use mathlib.Core.Path.{◌≡◌, sym, ap, subst, ◌∙◌}
use Prim.Native.Nat.{ℕ}
use lib.ListN.{length}
use Rattle.rules.specs.Given.{gives, refused}
use Rattle.rules.specs.Tests.{Test, first}
use Rattle.rules.specs.declared.Refusal.{Refusal}
use Rattle.rules.proofs.Tests.{first-refused, first-passed}
use Rattle.station.specs.Site.{Site, is_good}
use Rattle.station.specs.Outcome.{Is}
use Rattle.station.specs.Station.{call_tests, leaves, ready_given, to_all}
use Rattle.station.specs.declared.Answer.{Answer}
use Rattle.station.specs.declared.Answer.TheVariants as said
use Rattle.station.specs.declared.Ready.{Ready}
use Rattle.station.specs.declared.Ready.TheVariants.{Fine, Refused}
use Rattle.station.specs.declared.Whom.{Whom}
use Rattle.station.specs.declared.Whom.TheVariants.{This, All, Other}
use Rattle.station.proofs.Calls.{is-as, not-ready, is-ready, frame_refused, frame-other, frame-answered, frame-to-all}
use Rattle.modbus_body.specs.Body as body
use Rattle.modbus_body.specs.Body.{functions, body_asks}
use Rattle.modbus_counters.specs.Counters.{Fate, stopped, came, counted}
use Rattle.modbus_counters.specs.Diagnosis.{replied, after}
use Rattle.modbus_counters.specs.declared.Counters.{Counters}
use Rattle.modbus_line.specs.Framing.{answered, Framing, whom_at, frame_tests, modbus}
use Rattle.modbus_line.specs.Calls.{fate, shown, left, counters_after, Called, Heard, Answers}
use Rattle.modbus_line.specs.declared.Call.{Call}
use Rattle.modbus_line.specs.declared.Replied.{Replied}
use Rattle.modbus_line.proofs.Bodies.{line-to-all}

module _ (m : Framing) (c : Counters) (site : Site) (words frame room : List ℕ) where
  abbrev heard : Counters
  heard = shown m site.own frame c

  abbrev tests : List Test
  tests = call_tests 247 513 site (length words) (length room)

  -- ---- 1, 2 and 3

  pub line-not-ready : (r : Ready) (k : Refusal) → ready_given r ≡ first refused tests (gives 0) → r ≡ Refused k
      → Called m c site words frame room (record { answer = said.Refused k; counters = c }) words room
  unfolding counters_after
  line-not-ready r k e h = record {
    outcome = not-ready (modbus m heard) site words frame room r k e h;
    counters-are = sym (first-refused tests 0 k.0 (sym e ∙ ap ready_given h) (λ j. c) _);
  }

  pub line-ready : (r : Ready) (call : Call) {words' room' : List ℕ} → ready_given r ≡ first refused tests (gives 0) → r ≡ Fine
      → Heard m c site words frame room call words' room' → Called m c site words frame room call words' room'
  unfolding counters_after
  line-ready r call e h i = record {
    outcome = is-ready (modbus m heard) site words frame room r e h i.outcome;
    counters-are = i.counters-are ∙ sym (first-passed tests 0 0 (sym e ∙ ap ready_given h) (λ j. c) _);
  }

  -- ---- the frame

  -- how far it came says what it counts, and what is left
  left_at : (f : Fate) → fate m site.own frame ≡ f
      → left m c site words frame ≡ after f (is_good (leaves (modbus m heard) site words frame).says) (m.body frame) (counted f c)
  unfolding left
  left_at f e = ap (λ (x : Fate). after x (is_good (leaves (modbus m heard) site words frame).says) (m.body frame) (counted x c)) e

  pub line_refused : (r : Refusal) {c' : Counters} → first refused (frame_tests m frame) (gives 0) ≡ refused r.0 → c' ≡ counted (stopped r.0) c
      → Heard m c site words frame room (record { answer = said.Refused r; counters = c' }) words room
  unfolding fate after
  line_refused r e h = record {
    outcome = frame_refused (modbus m heard) site words frame room r e;
    counters-are = h ∙ sym (left_at (stopped r.0) (first-refused (frame_tests m frame) 0 r.0 e stopped _));
  }

  module _ (right : first refused (frame_tests m frame) (gives 0) ≡ gives 0) where
    came-for : (whom : Whom) → whom_at (m.to frame) site.own ≡ whom → fate m site.own frame ≡ came whom
    unfolding fate
    came-for whom e = first-passed (frame_tests m frame) 0 0 right stopped _ ∙ ap came e

    pub line_other : (r : Refusal) {c' : Counters} → r.0 ≡ 12 → whom_at (m.to frame) site.own ≡ Other → c' ≡ counted (came Other) c
        → Heard m c site words frame room (record { answer = said.Refused r; counters = c' }) words room
    unfolding after
    line_other r n w h = record {
      outcome = frame-other (modbus m heard) site words frame room r n right w;
      counters-are = h ∙ sym (left_at (came Other) (came-for Other w));
    }

    pub line-for-all : {a : Answer} {c' : Counters} {words' : List ℕ} → whom_at (m.to frame) site.own ≡ All → c' ≡ counted (came All) c
        → Is (to_all words room (body_asks functions (m.body frame)) (body.answered site.judge words (m.body frame))) a words' room
        → Heard m c site words frame room (record { answer = a; counters = c' }) words' room
    unfolding after
    line-for-all w h i = record {
      outcome = frame-to-all (modbus m heard) site words frame room right w (is-as (line-to-all heard site.judge words (m.body frame) room) i);
      counters-are = h ∙ sym (left_at (came All) (came-for All w));
    }

    pub line-answered : (r : Replied) {c' : Counters} {words' room' : List ℕ} → whom_at (m.to frame) site.own ≡ This → c' ≡ counted (came This) c
        → Answers (m.framed site.own) c' site.judge words (m.body frame) room 0 r words' room'
        → Heard m c site words frame room (record { answer = said.Reply r.size; counters = r.counters }) words' room'
    unfolding after
    line-answered r {c'} {words'} {room'} w h i =
        let here = came-for This w in
        let same : c' ≡ heard = h ∙ sym (ap (λ (f : Fate). counted f c) here) in
        let a = subst (λ (x : Counters). Answers (m.framed site.own) x site.judge words (m.body frame) room 0 r words' room') same i in
        record {
          outcome = frame-answered (modbus m heard) site words frame room right w a.served;
          counters-are = a.counters-are ∙ ap (λ (x : Counters). replied (is_good (answered heard site.judge words (m.body frame)).says) (m.body frame) x) (ap (λ (f : Fate). counted f c) here)
              ∙ sym (left_at (came This) here);
        }
