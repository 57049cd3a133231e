-- 1 and 2 first, and then the frame. Assumes nothing.
use Rattle.modbus_counters.specs.Counters.{cleared}
use Rattle.modbus_line.specs.Framing.{modbus}
use Rattle.modbus_ascii.specs.Ascii.{ascii}
use Rattle.masters.proofs.Calls.{not-ready, is-ready}
use Rattle.masters.proofs.modbus.ascii_touched.Goals as goal

pub returns-in-Fine : goal.returns-in-Fine
returns-in-Fine c =
    let a = c.args in
    is-ready (modbus ascii cleared) a.attributes.now a.profile a.own a.frame.now _ _ c.ready.ensures c.in-Fine.is c.ascii_heard.ensures

pub returns-in-Refused : goal.returns-in-Refused
returns-in-Refused c =
    let a = c.args in
    not-ready (modbus ascii cleared) a.attributes.now a.profile a.own a.frame.now _ _ c.ready.ensures _ c.in-Refused.is c.nothing.ensures
