-- Each way rewrites with the tests that led there. Assumes nothing.
use mathlib.Core.Path.{sym, ◌∙◌}
use Rattle.rules.proofs.Choose.{via, pick_yes, pick_no}
use Rattle.mewtocol_asking.specs.Code.{asking_of, request_of}
use Rattle.mewtocol_asking.proofs.Tests.{tests-are}
use Rattle.mewtocol_reader.specs.Replies.{refused, read_frame, read}
use Rattle.mewtocol_reader.proofs.read.Goals as goal

pub returns-then-not-is_station : goal.returns-then-not-is_station
unfolding read
returns-then-not-is_station c = rw (via c.is_station.ensures c.if-not-is_station.true)

pub returns-then-not-can_ask : goal.returns-then-not-can_ask
unfolding read
returns-then-not-can_ask c =
    let a = c.args in
    let k = asking_of a.asking.now in
    let q = request_of a.asking.now in
    rw (via c.is_station.ensures c.if-not-is_station.false)
    (sym (tests-are a.limits k refused (read_frame a.limits a.station q a.frame.now) ∙ pick_no _ _ _ (via c.can_ask.ensures c.if-not-can_ask.true)))

pub returns : goal.returns
unfolding read
returns c =
    let a = c.args in
    let k = asking_of a.asking.now in
    let q = request_of a.asking.now in
    rw (via c.is_station.ensures c.if-not-is_station.false)
    (c.read_frame.ensures ∙ sym (tests-are a.limits k refused (read_frame a.limits a.station q a.frame.now) ∙ pick_yes _ _ _ (via c.can_ask.ensures c.if-not-can_ask.false)))
