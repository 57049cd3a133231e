-- What stands in the room is given. Assumes nothing.
use Rattle.modbus_ascii.proofs.bytes_in.Goals as goal

pub returns-in-Some : goal.returns-in-Some
returns-in-Some c = c.in-Some.ensures

pub returns-in-None : goal.returns-in-None
returns-in-None c = c.in-None.ensures
