-- Each way is one end of a write. Assumes nothing.
use Rattle.modbus_body.specs.Body.{reply_to}
use Rattle.modbus_body.proofs.replies.settle.Goals as goal

pub returns-in-Ok : goal.returns-in-Ok
unfolding reply_to
returns-in-Ok c = rw c.in-Ok.is c.echo.ensures

pub returns-in-Err : goal.returns-in-Err
unfolding reply_to
returns-in-Err c = rw (c.in-Err.is, ← c.number.ensures) c.refuse.ensures
