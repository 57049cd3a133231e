-- The shape in the frame's own form, and then whom the frame is for. Assumes nothing.
use mathlib.Core.Path.{◌≡◌, refl, sym, ap, subst, ◌∙◌}
use borrow.Author.Rules.{rules}
use mathlib.Core.Bool.{true}
use mathlib.Core.List.{List}
use Prim.Native.Nat.{ℕ}
use Rattle.rules.specs.Given.{gives, refused}
use Rattle.rules.specs.Tests.{first}
use Rattle.rules.proofs.Choose.{via}
use Rattle.table_registers.specs.Profile.{verdict}
use Rattle.table_registers.specs.declared.Profile.{Profile}
use Rattle.station.specs.declared.Whom.{Whom}
use Rattle.station.specs.declared.Whom.TheVariants.{This, All}
use Rattle.station.specs.declared.Answer.{Answer}
use Rattle.station.specs.declared.Answer.TheVariants.{Reply}
use Rattle.station.specs.Site.{site_of, done}
use Rattle.station.specs.Outcome.{Is, Served}
use Rattle.station.specs.Station.{to_all, received}
use Rattle.station.proofs.Calls.{frame_refused, frame-other, frame-answered, frame-to-all}
use Rattle.mewtocol_frame.specs.declared.Limits.{Limits}
use Rattle.mewtocol_frame.specs.Frame.{limits_in, good_shape}
use Rattle.mewtocol_requests.specs.Hearing.{read_frame}
use Rattle.mewtocol_station.specs.Replies.{reply_frame}
use Rattle.mewtocol_station.specs.Station.{errors, reading_asks, whom_in, mewtocol}
use Rattle.mewtocol_station.proofs.respond.Goals as goal

-- the shape is right, at the form that the code holds
right : (l : Limits) (f : List ℕ) → l ≡ limits_in f → good_shape l 8 f ≡ true → first refused (mewtocol.tests f) (gives 0) ≡ gives 0
right l f e h = rw (sym (ap (λ (x : Limits). good_shape x 8 f) e) ∙ h)

pub returns-then-not-good_shape : goal.returns-then-not-good_shape
returns-then-not-good_shape c = let a = c.args in
    let f = a.frame.now in
    frame_refused mewtocol (site_of a.attributes.now a.profile a.own) a.words.now f a.reply.now _
    (rw (sym (ap (λ (x : Limits). good_shape x 8 f) c.limits_in-limits.ensures) ∙ via c.good_shape.ensures c.if-not-good_shape.true))

-- for this station: the shape is right, and what the code served goes out
here : (l : Limits) (profile : Profile) (attributes words frame room : List ℕ) (own n : ℕ) (words' room' : List ℕ) (whom : Whom)
    → l ≡ limits_in frame → good_shape l 8 frame ≡ true → whom ≡ whom_in own frame → whom ≡ This
    → Served (reply_frame l.header own) (done errors (verdict profile attributes) words (reading_asks (read_frame l frame))) room 0 n words' room'
    → Is (received mewtocol (site_of attributes profile own) words frame room) (Reply n) words' room'
here l profile attributes words frame room own n words' room' whom form shape is named served =
    frame-answered mewtocol (site_of attributes profile own) words frame room (right l frame form shape) (sym is ∙ named)
    (subst (λ (x : Limits). Served (reply_frame x.header own) (done errors (verdict profile attributes) words (reading_asks (read_frame x frame))) room 0 n words' room') form served)

-- for all: what the same request would leave at this one
everywhere : (l : Limits) (profile : Profile) (attributes words frame room : List ℕ) (own : ℕ) (answer : Answer) (words' : List ℕ) (whom : Whom)
    → l ≡ limits_in frame → good_shape l 8 frame ≡ true → whom ≡ whom_in own frame → whom ≡ All
    → Is (to_all words room (reading_asks (read_frame l frame)) (done errors (verdict profile attributes) words (reading_asks (read_frame l frame)))) answer words' room
    → Is (received mewtocol (site_of attributes profile own) words frame room) answer words' room
everywhere l profile attributes words frame room own answer words' whom form shape is named left =
    frame-to-all mewtocol (site_of attributes profile own) words frame room (right l frame form shape) (sym is ∙ named)
    (subst (λ (x : Limits). Is (to_all words room (reading_asks (read_frame x frame)) (done errors (verdict profile attributes) words (reading_asks (read_frame x frame)))) answer words' room) form left)

pub returns-in-This : goal.returns-in-This
returns-in-This c =
    let a = c.args in
    let l = c.limits_in-limits in
    let shape = via c.good_shape.ensures c.if-not-good_shape.false in
    here l.result a.profile a.attributes.now a.words.now a.frame.now a.reply.now a.own _ _ _ c.whom.result l.ensures shape c.whom.ensures c.in-This.is (search rules)

pub returns-in-All : goal.returns-in-All
returns-in-All c =
    let a = c.args in
    let l = c.limits_in-limits in
    let shape = via c.good_shape.ensures c.if-not-good_shape.false in
    everywhere l.result a.profile a.attributes.now a.words.now a.frame.now a.reply.now a.own _ _ c.whom.result l.ensures shape c.whom.ensures c.in-All.is (search rules)

pub returns-in-Other : goal.returns-in-Other
returns-in-Other c = let a = c.args in
    let f = a.frame.now in
    let l = c.limits_in-limits in
    let tests = right l.result f l.ensures (via c.good_shape.ensures c.if-not-good_shape.false) in
    let whom = sym c.whom.ensures ∙ c.in-Other.is in
    frame-other mewtocol (site_of a.attributes.now a.profile a.own) a.words.now f a.reply.now _ refl tests whom
