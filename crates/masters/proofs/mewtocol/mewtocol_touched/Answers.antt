-- 1 and 2 first, and then the frame. Assumes nothing.
use Rattle.mewtocol_station.specs.Station.{mewtocol}
use Rattle.masters.proofs.Calls.{not-ready, is-ready}
use Rattle.masters.proofs.mewtocol.mewtocol_touched.Goals as goal

pub returns-in-Fine : goal.returns-in-Fine
returns-in-Fine c =
    let a = c.args in
    is-ready mewtocol a.attributes.now a.profile a.own a.frame.now _ _ c.ready.ensures c.in-Fine.is c.mewtocol_heard.ensures

pub returns-in-Refused : goal.returns-in-Refused
returns-in-Refused c =
    let a = c.args in
    not-ready mewtocol a.attributes.now a.profile a.own a.frame.now _ _ c.ready.ensures _ c.in-Refused.is c.nothing.ensures
