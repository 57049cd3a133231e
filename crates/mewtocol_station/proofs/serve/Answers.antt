-- An error; or the operation's verdict, and the reply that it calls for. Assumes nothing.
use mathlib.Core.Path.{◌≡◌, refl, sym, ap, ◌∙◌}
use mathlib.Core.List.{List}
use Prim.Native.Nat.{ℕ}
use native.Mathlib.Omega.{arith}
use Rattle.table_registers.specs.declared.Verdict.{Verdict}
use Rattle.table_registers.specs.declared.Verdict.TheVariants.{Granted}
use Rattle.table_registers.specs.Operation.{after, shows, words_after}
use Rattle.table_registers.specs.Profile.{verdict}
use Rattle.station.specs.Site.{done, good}
use Rattle.station.proofs.Done.{done-granted, done-lacking, done-unfit, served, put_as}
use Rattle.mewtocol_frame.specs.Frame.{text_of}
use Rattle.mewtocol_requests.specs.Requests.{Request}
use Rattle.mewtocol_requests.specs.Code.{request_of, words_in}
use Rattle.mewtocol_station.specs.Replies.{operation_of, reply_of, reply_frame}
use Rattle.mewtocol_station.specs.Station.{errors}
use Rattle.mewtocol_station.proofs.Operations.{shows-after}
use Rattle.mewtocol_station.proofs.Readings.{asked-faulty, asked-request, asked-sound, left_by}
use Rattle.mewtocol_station.proofs.serve.Goals as goal

pub carry_out-requires : goal.carry_out-requires
carry_out-requires c = let a = c.args in
    let f = a.frame.now in
    let cs = c.read_frame.new.contacts in
    let vs = c.read_frame.new.values in
    let says = c.read_frame.ensures.says 0 (text_of f) refl in
    (omega (arith, c.read_frame.auto.contacts), omega (arith, c.read_frame.auto.values), (a.limits, asked-sound a.limits f cs vs _ says _ c.in-Asks.is))

pub show-requires : goal.show-requires
show-requires c = let a = c.args in
    let f = a.frame.now in
    let cs = c.read_frame.new.contacts in
    let vs = c.read_frame.new.values in
    let says = c.read_frame.ensures.says 0 (text_of f) refl in
    (omega (arith, c.read_frame.auto.contacts), (a.limits, vs, words_in (text_of f), asked-sound a.limits f cs vs _ says _ c.in-Asks.is, c.requires.1, c.requires.0))

pub returns-in-Faulty : goal.returns-in-Faulty
unfolding done
returns-in-Faulty c = let a = c.args in
    let f = a.frame.now in
    let cs = c.read_frame.new.contacts in
    let vs = c.read_frame.new.values in
    let says = c.read_frame.ensures.says 0 (text_of f) refl in
    served (left_by (verdict a.profile a.attributes.now) a.words.now (asked-faulty a.limits f cs vs _ says _ c.in-Faulty.is)) c.refuse.ensures refl

pub returns-in-Granted : goal.returns-in-Granted
unfolding words_after
returns-in-Granted c = let a = c.args in
    let f = a.frame.now in
    let cs = c.read_frame.new.contacts in
    let vs = c.read_frame.new.values in
    let says = c.read_frame.ensures.says 0 (text_of f) refl in
    let q : Request = request_of c.in-Asks.request cs vs (words_in (text_of f)) in
    let granted : verdict a.profile a.attributes.now a.words.now (operation_of q) ≡ Granted = sym c.carry_out.ensures.verdict-is ∙ c.in-Granted.is in
    let after_is : c.carry_out.new.words ≡ after (operation_of q) a.words.now = c.carry_out.ensures.words-is ∙ ap (λ (v : Verdict). words_after v (operation_of q) a.words.now) granted in
    served (left_by (verdict a.profile a.attributes.now) a.words.now (asked-request a.limits f cs vs _ says _ c.in-Asks.is) ∙ done-granted errors (verdict a.profile a.attributes.now) a.words.now (operation_of q) (reply_of q) granted)
    (put_as (ap (λ (s : List ℕ). reply_frame a.limits.header a.own (good (reply_of q s))) (sym (ap (shows (operation_of q)) after_is ∙ shows-after q a.words.now))) (c.show.ensures vs (words_in (text_of f))))
    after_is

pub returns-in-Lacking : goal.returns-in-Lacking
unfolding words_after
returns-in-Lacking c = let a = c.args in
    let f = a.frame.now in
    let cs = c.read_frame.new.contacts in
    let vs = c.read_frame.new.values in
    let says = c.read_frame.ensures.says 0 (text_of f) refl in
    let q : Request = request_of c.in-Asks.request cs vs (words_in (text_of f)) in
    let lacking = sym c.carry_out.ensures.verdict-is ∙ c.in-Lacking.is in
    served (left_by (verdict a.profile a.attributes.now) a.words.now (asked-request a.limits f cs vs _ says _ c.in-Asks.is) ∙ done-lacking errors (verdict a.profile a.attributes.now) a.words.now (operation_of q) (reply_of q) _ lacking)
    c.refuse-in-Lacking.ensures (c.carry_out.ensures.words-is ∙ ap (λ (v : Verdict). words_after v (operation_of q) a.words.now) lacking)

pub returns-in-Unfit : goal.returns-in-Unfit
unfolding words_after
returns-in-Unfit c = let a = c.args in
    let f = a.frame.now in
    let cs = c.read_frame.new.contacts in
    let vs = c.read_frame.new.values in
    let says = c.read_frame.ensures.says 0 (text_of f) refl in
    let q : Request = request_of c.in-Asks.request cs vs (words_in (text_of f)) in
    let unfit = sym c.carry_out.ensures.verdict-is ∙ c.in-Unfit.is in
    served (left_by (verdict a.profile a.attributes.now) a.words.now (asked-request a.limits f cs vs _ says _ c.in-Asks.is) ∙ done-unfit errors (verdict a.profile a.attributes.now) a.words.now (operation_of q) (reply_of q) unfit)
    c.refuse-in-Unfit.ensures (c.carry_out.ensures.words-is ∙ ap (λ (v : Verdict). words_after v (operation_of q) a.words.now) unfit)
