-- What was read decides: an error touches nothing. Assumes nothing.
use mathlib.Core.Path.{refl, sym}
use native.Mathlib.Omega.{arith}
use Rattle.mewtocol_frame.specs.Frame.{text_of}
use Rattle.mewtocol_station.proofs.Readings.{asked-faulty, asked-request, asked-sound}
use Rattle.masters.proofs.Functions.{asked-as}
use Rattle.masters.proofs.mewtocol.asked_touched.Goals as goal

pub request_touched-requires : goal.request_touched-requires
request_touched-requires c =
    let a = c.args in
    let f = a.frame.now in
    let cs = c.read_frame.new.contacts in
    let vs = c.read_frame.new.values in
    let says = c.read_frame.ensures.says 0 (text_of f) refl in
    (c.requires, omega (arith, c.read_frame.auto.contacts), omega (arith, c.read_frame.auto.values), asked-sound a.limits f cs vs _ says _ c.in-Asks.is)

pub returns-in-Faulty : goal.returns-in-Faulty
returns-in-Faulty c =
    let a = c.args in
    let f = a.frame.now in
    let cs = c.read_frame.new.contacts in
    let vs = c.read_frame.new.values in
    let says = c.read_frame.ensures.says 0 (text_of f) refl in
    asked-as _ a.attributes.now a.profile (sym (asked-faulty a.limits f cs vs _ says _ c.in-Faulty.is)) c.nothing.ensures

pub returns-in-Asks : goal.returns-in-Asks
returns-in-Asks c =
    let a = c.args in
    let f = a.frame.now in
    let cs = c.read_frame.new.contacts in
    let vs = c.read_frame.new.values in
    let says = c.read_frame.ensures.says 0 (text_of f) refl in
    asked-as _ a.attributes.now a.profile (sym (asked-request a.limits f cs vs _ says _ c.in-Asks.is)) c.request_touched.ensures
