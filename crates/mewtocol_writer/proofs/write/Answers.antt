-- The writer's ways. Assumes nothing.
use borrow.Author.Tests.{le-leb, lt-leb}
use Rattle.rules.proofs.Choose.{via}
use Rattle.mewtocol_asking.specs.Code.{asking_of}
use Rattle.mewtocol_writer.proofs.Ways.{refused-station, refused-room, refused-request, written}
use Rattle.mewtocol_writer.proofs.write.Goals as goal

pub returns-then-not-is_station : goal.returns-then-not-is_station
returns-then-not-is_station c =
    let a = c.args in
    refused-station a.limits a.station (asking_of a.asking.now) a.room.now (via c.is_station.ensures c.if-not-is_station.true)

pub returns-then-room-limits : goal.returns-then-room-limits
returns-then-room-limits c =
    let a = c.args in
    refused-room a.limits a.station (asking_of a.asking.now) a.room.now (via c.is_station.ensures c.if-not-is_station.false) (lt-leb _ _ c.if-room-limits.true)

pub returns-then-not-can_ask : goal.returns-then-not-can_ask
returns-then-not-can_ask c =
    let a = c.args in
    refused-request a.limits a.station (asking_of a.asking.now) a.room.now (via c.is_station.ensures c.if-not-is_station.false) (le-leb _ _ c.if-room-limits.false) (via c.can_ask.ensures c.if-not-can_ask.true)

pub returns : goal.returns
returns c =
    let a = c.args in
    written a.limits a.station (asking_of a.asking.now) a.room.now _ _ (via c.is_station.ensures c.if-not-is_station.false) (le-leb _ _ c.if-room-limits.false) (via c.can_ask.ensures c.if-not-can_ask.false) c.put_request.ensures
