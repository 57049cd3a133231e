-- 1, 2 and 3 first, and then the frame. Assumes nothing.
use Rattle.station.specs.Site.{site_of}
use Rattle.station.proofs.Calls.{ready-fit}
use Rattle.modbus_line.specs.Framing.{modbus}
use Rattle.modbus_line.proofs.Calls.{line-not-ready, line-ready}
use Rattle.modbus_ascii.specs.Ascii.{ascii}
use Rattle.modbus_ascii.proofs.ascii_station.Goals as goal

pub hear_text-requires : goal.hear_text-requires
hear_text-requires c = let a = c.args in ready-fit (modbus ascii a.counters) (site_of a.attributes.now a.profile a.own) a.words.now a.frame.now a.reply.now _ c.ready.ensures c.in-Fine.is

pub returns-in-Fine : goal.returns-in-Fine
returns-in-Fine c = let a = c.args in line-ready ascii a.counters (site_of a.attributes.now a.profile a.own) a.words.now a.frame.now a.reply.now _ _ c.ready.ensures c.in-Fine.is c.hear_text.ensures

pub returns-in-Refused : goal.returns-in-Refused
returns-in-Refused c = let a = c.args in line-not-ready ascii a.counters (site_of a.attributes.now a.profile a.own) a.words.now a.frame.now a.reply.now _ _ c.ready.ensures c.in-Refused.is
