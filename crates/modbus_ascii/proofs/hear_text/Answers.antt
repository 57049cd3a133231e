-- The bytes that the text says stand in a local room and are heard there. Assumes nothing.
use mathlib.Core.Path.{sym}
use native.Mathlib.Omega.{arith}
use Rattle.station.specs.Site.{site_of}
use Rattle.modbus_line.proofs.Calls.{line_refused}
use Rattle.modbus_ascii.specs.Ascii.{ascii}
use Rattle.modbus_ascii.proofs.hear_text.Goals as goal

pub hear_bytes-requires : goal.hear_bytes-requires
hear_bytes-requires c =
    (c.requires, c.in-Some.ensures.least, c.in-Some.ensures.most, omega (arith, c.bytes_into.auto.room))

pub returns-in-Some : goal.returns-in-Some
returns-in-Some c = c.hear_bytes.ensures c.args.frame.now c.in-Some.ensures.shape (sym c.in-Some.ensures.bytes-are)

pub returns-in-None : goal.returns-in-None
returns-in-None c =
    let a = c.args in
    line_refused ascii a.counters (site_of a.attributes.now a.profile a.own) a.words.now a.frame.now a.reply.now _ (rw c.in-None.ensures) c.stopped.ensures
