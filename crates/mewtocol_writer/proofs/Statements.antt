-- The statements of specs/Statements: what is written is a frame that its station hears; one answer only. Assumes nothing.
use mathlib.Core.Path.{◌≡◌, refl, sym, ap, ap₂, subst, ◌∙◌}
use mathlib.Core.List.{List}
use mathlib.Core.Bool.{true}
use Prim.Native.Nat.{ℕ, ◌≤◌}
use native.Mathlib.Omega.{arith}
use borrow.Author.Tests.{eq-eqb}
use lib.Dec.{eqb, leb}
use lib.ListN.{length, take, get_or}
use Rattle.rules.specs.Choice.{between}
use Rattle.rules.specs.Given.{Given, gives, refused}
use Rattle.rules.specs.Characters.{hash}
use Rattle.rules.proofs.Choose.{pick_yes, pick_all, in-range}
use Rattle.text_rooms.proofs.Overwrite.{overwrite-front}
use Rattle.mewtocol_frame.specs.Frame.{highest, for_station, good_check, Roomy, Framed}
use Rattle.mewtocol_frame.specs.declared.Limits.{Limits}
use Rattle.mewtocol_frame.proofs.Sealed.{sealed-station, sealed-mark, sealed-text}
use Rattle.mewtocol_requests.specs.Reading.{request, read_text}
use Rattle.mewtocol_requests.specs.Hearing.{read_frame}
use Rattle.mewtocol_asking.specs.Asking.{Asking, asking, request_in, ask_text, can_ask}
use Rattle.mewtocol_asking.specs.declared.Ask.{Ask}
use Rattle.mewtocol_asking.proofs.Tests.{tests-are}
use Rattle.mewtocol_writer.specs.Writing as writing
use Rattle.mewtocol_writer.specs.Writing.{ask_frame}
use Rattle.mewtocol_writer.specs.Statements.{Wrote, WritesFrames, HeardBack, OneWritten}
use Rattle.mewtocol_writer.specs.declared.Written.{Written}
use Rattle.mewtocol_writer.specs.declared.Written.TheVariants.{Frame, Refused}
use Rattle.mewtocol_writer.proofs.ReadBack.{read_back}
use Rattle.mewtocol_writer.proofs.Frames.{request-framed}

-- the frame is for the station that it names, and asks the request
pub frame-heard : (l : Limits) → Roomy l → (to : ℕ) (a : Ask) (cs vs ws : List ℕ) → to ≤ highest → can_ask l (asking a cs vs ws) ≡ true
    → let f : List ℕ = ask_frame l.header to (asking a cs vs ws) in (for_station to f ≡ true) × (read_frame l f ≡ request (request_in (asking a cs vs ws)))
unfolding read_frame ask_frame
frame-heard l roomy to a cs vs ws h can =
    let q = asking a cs vs ws in
    let f = ask_frame l.header to q in (
      sealed-station l.header to hash (ask_text q) h,
      pick_yes (good_check f) _ _ (request-framed l roomy to q can).check
          ∙ pick_yes (eqb (get_or f 3 0) hash) _ _ (eq-eqb _ _ (sealed-mark l.header to hash (ask_text q)))
          ∙ ap (read_text l) (sealed-text l.header to hash (ask_text q))
          ∙ read_back l a cs vs ws can,
    )

-- a writer that gives n has been asked what can be a request, of a station that there is, and its frame stands in the room
module _ (l : Limits) (to : ℕ) (a : Asking) (room : List ℕ) (n : ℕ) (room' : List ℕ) where
  pub record Gave : Type 0 where
    pub can : can_ask l a ≡ true
    pub station : to ≤ highest
    pub frame : take n room' ≡ ask_frame l.header to a

  abbrev Gives : writing.Outcome → Type 0
  Gives o = gives n ≡ o.number → room' ≡ o.room → Gave

  none : (k : ℕ) → Gives (writing.left k room)
  none k e r = let z : ◌≡◌ {A = ℕ} 0 1 = cc in absurd (omega arith)

  gave : Wrote l to a room n room' → Gave
  unfolding writing.write
  gave w =
      let frame = ask_frame l.header to a in
      pick_all Gives (between 1 highest to) _ _
      (λ there. pick_all Gives (leb l.longest (length room)) _ _
      (λ _. subst Gives (sym (tests-are l a (λ k. writing.left k room) (writing.sent frame room)))
      (pick_all Gives (can_ask l a) _ _
      (λ can e r. let same : n ≡ length frame = cc in record { can = can; station = (in-range 1 highest to there).1; frame = ap₂ take same r ∙ overwrite-front room frame })
      (λ _. none 14)))
      (λ _. none 3))
      (λ _. none 2)
      w.answer-is w.room-is

pub writes-frames : WritesFrames
writes-frames l roomy to a cs vs ws room n room' w =
    let g = gave l to (asking a cs vs ws) room n room' w in
    subst (Framed l 8) (sym g.frame) (request-framed l roomy to (asking a cs vs ws) g.can)

pub heard-back : HeardBack
heard-back l roomy to a cs vs ws room n room' w =
    let g = gave l to (asking a cs vs ws) room n room' w in
    let f = frame-heard l roomy to a cs vs ws g.station g.can in
    (ap (for_station to) g.frame ∙ f.0, ap (read_frame l) g.frame ∙ f.1)

-- ---- one answer only

abbrev back : Given → Written
back (gives n) = Frame n
back (refused k) = Refused (record { 0 = k })

back_is : (w : Written) → back (writing.given w) ≡ w
back_is (Frame n) = refl
back_is (Refused r) = refl

pub one_written : OneWritten
one_written o a b r s p q = (sym (back_is a) ∙ ap back (p.answer-is ∙ sym q.answer-is) ∙ back_is b, p.room-is ∙ sym q.room-is)
