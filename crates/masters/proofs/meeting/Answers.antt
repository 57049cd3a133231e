-- The lowest cell of what both touch, all of which lies in the table. Assumes nothing.
use lib.ListN.{length}
use Rattle.station.specs.Site.{site_of}
use Rattle.modbus_counters.specs.Counters.{cleared}
use Rattle.masters.specs.Frames.{format_of, line_cells}
use Rattle.masters.proofs.Past.{frame_past, met}
use Rattle.masters.proofs.meeting.Goals as goal

pub returns : goal.returns
returns c =
    let a = c.args in
    let us = a.attributes.now in
    met (length us) (line_cells a.one (site_of us a.profile a.one_own) a.one_frame.now) (line_cells a.other (site_of us a.profile a.other_own) a.other_frame.now)
    c.touched-first.result c.met.result c.met.ensures c.touched-first.ensures
    (frame_past us a.profile (format_of a.one cleared) a.one_own a.one_frame.now)
