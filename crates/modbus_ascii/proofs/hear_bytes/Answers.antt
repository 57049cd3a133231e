-- Each way says which test of the frame fails, or that none does and whom the frame is for, and what it counts. Assumes nothing.
use mathlib.Core.Bool.{true}
use mathlib.Core.Path.{◌≡◌, refl, sym, ap, subst, ◌∙◌}
use mathlib.Core.List.{List}
use Prim.Native.Nat.{ℕ}
use lib.ListN.{get_or}
use Rattle.rules.specs.Given.{gives, refused}
use Rattle.rules.specs.Tests.{first}
use Rattle.rules.proofs.Choose.{via}
use Rattle.checks_lrc.specs.Lrc.{right_lrc}
use Rattle.table_registers.specs.Profile.{verdict}
use Rattle.station.specs.Site.{site_of}
use Rattle.station.specs.Outcome.{Is}
use Rattle.station.specs.Station.{to_all}
use Rattle.station.specs.declared.Whom.{Whom}
use Rattle.modbus_body.specs.Body as body
use Rattle.modbus_counters.specs.Counters as cs
use Rattle.modbus_line.specs.Framing.{whom_at, frame_tests}
use Rattle.modbus_line.proofs.Calls.{line_refused, line_other, line-for-all, line-answered}
use Rattle.modbus_ascii.specs.Ascii.{ascii, good_ascii, bytes_of, body_in}
use Rattle.modbus_ascii.proofs.Pairs.{for-body}
use Rattle.modbus_ascii.proofs.hear_bytes.Goals as goal

-- shape and check are right
right : (f : List ℕ) → good_ascii f ≡ true → right_lrc (bytes_of f) ≡ true → first refused (frame_tests ascii f) (gives 0) ≡ gives 0
right f good check = rw (good, check)

pub returns-then-not-right_lrc : goal.returns-then-not-right_lrc
returns-then-not-right_lrc c = λ frame good is.
    let a = c.args in
    let here = is ∙ sym c.part_of-heard.ensures in
    line_refused ascii a.counters (site_of a.attributes.now a.profile a.own) a.words.now frame a.reply.now _
    (rw (good, ap right_lrc here ∙ via c.right_lrc.ensures c.if-not-right_lrc.true)) c.stopped.ensures

pub returns-in-This : goal.returns-in-This
returns-in-This c = λ frame good is.
    let a = c.args in
    let here = is ∙ sym c.part_of-heard.ensures in
    let tests = right frame good (ap right_lrc here ∙ via c.right_lrc.ensures c.if-not-right_lrc.false) in
    let whom = ap (λ (s : List ℕ). whom_at (get_or s 0 0) a.own) here ∙ ap (λ (t : ℕ). whom_at t a.own) (sym c.byte_at.ensures) ∙ sym c.whom-whom.ensures ∙ c.in-This.is in
    let heard = c.heard-counted.ensures ∙ ap (λ (x : Whom). cs.counted (cs.came x) a.counters) c.in-This.is in
    line-answered ascii a.counters (site_of a.attributes.now a.profile a.own) a.words.now frame a.reply.now tests c.serve_text-said.result whom heard
    (for-body (ap body_in (sym is)) c.serve_text-said.ensures)

pub returns-in-All : goal.returns-in-All
returns-in-All c = λ frame good is.
    let a = c.args in
    let here = is ∙ sym c.part_of-heard.ensures in
    let tests = right frame good (ap right_lrc here ∙ via c.right_lrc.ensures c.if-not-right_lrc.false) in
    let whom = ap (λ (s : List ℕ). whom_at (get_or s 0 0) a.own) here ∙ ap (λ (t : ℕ). whom_at t a.own) (sym c.byte_at.ensures) ∙ sym c.whom-whom.ensures ∙ c.in-All.is in
    let heard = c.heard-counted.ensures ∙ ap (λ (x : Whom). cs.counted (cs.came x) a.counters) c.in-All.is in
    let is_is_body = c.body_in.ensures ∙ ap body_in (c.part_of.ensures ∙ sym is) in
    line-for-all ascii a.counters (site_of a.attributes.now a.profile a.own) a.words.now frame a.reply.now tests whom heard
    (subst (λ (b : List ℕ). Is (to_all a.words.now a.reply.now (body.body_asks body.functions b) (body.answered (verdict a.profile a.attributes.now) a.words.now b)) c.carry_out.result c.carry_out.new.words a.reply.now) is_is_body (c.carry_out.ensures a.reply.now))

pub returns-in-Other : goal.returns-in-Other
returns-in-Other c = λ frame good is.
    let a = c.args in
    let here = is ∙ sym c.part_of-heard.ensures in
    let tests = right frame good (ap right_lrc here ∙ via c.right_lrc.ensures c.if-not-right_lrc.false) in
    let whom = ap (λ (s : List ℕ). whom_at (get_or s 0 0) a.own) here ∙ ap (λ (t : ℕ). whom_at t a.own) (sym c.byte_at.ensures) ∙ sym c.whom-whom.ensures ∙ c.in-Other.is in
    let heard = c.heard-counted.ensures ∙ ap (λ (x : Whom). cs.counted (cs.came x) a.counters) c.in-Other.is in
    line_other ascii a.counters (site_of a.attributes.now a.profile a.own) a.words.now frame a.reply.now tests _ refl whom heard
