-- The test decides. Assumes nothing.
use borrow.Author.Tests.{lt-ltb, le-ltb}
use Rattle.tools_reader.specs.Reader.{counted, kept}
use Rattle.tools_reader.proofs.take.Goals as goal

pub returns-then-used-room : goal.returns-then-used-room
unfolding counted kept
returns-then-used-room c = record { value = rw (lt-ltb _ _ c.if-used-room.true); room_after = rw (lt-ltb _ _ c.if-used-room.true) }

pub returns : goal.returns
unfolding counted kept
returns c = record { value = rw (le-ltb _ _ c.if-used-room.false); room_after = rw (le-ltb _ _ c.if-used-room.false) }
