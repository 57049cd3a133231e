-- 1, 2 and 3 first, and then the frame. Assumes nothing.
use Rattle.station.specs.Site.{site_of}
use Rattle.station.proofs.Calls.{not-ready, is-ready, ready-fit}
use Rattle.mewtocol_station.specs.Station.{mewtocol}
use Rattle.mewtocol_station.proofs.station.Goals as goal

pub respond-requires : goal.respond-requires
respond-requires c = let a = c.args in ready-fit mewtocol (site_of a.attributes.now a.profile a.own) a.words.now a.frame.now a.reply.now _ c.ready.ensures c.in-Fine.is

pub returns-in-Fine : goal.returns-in-Fine
returns-in-Fine c = let a = c.args in is-ready mewtocol (site_of a.attributes.now a.profile a.own) a.words.now a.frame.now a.reply.now _ c.ready.ensures c.in-Fine.is c.respond.ensures

pub returns-in-Refused : goal.returns-in-Refused
returns-in-Refused c = let a = c.args in not-ready mewtocol (site_of a.attributes.now a.profile a.own) a.words.now a.frame.now a.reply.now _ _ c.ready.ensures c.in-Refused.is
