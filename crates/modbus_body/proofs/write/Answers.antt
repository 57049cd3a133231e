-- Each way says which function it is. Assumes nothing.
use borrow.Author.Tests.{ne_eqb}
use Rattle.station.specs.Site.{done}
use Rattle.modbus_body.specs.Body.{body_asks}
use Rattle.modbus_body.proofs.write.Goals as goal

pub returns-in-5 : goal.returns-in-5
unfolding body_asks
returns-in-5 c = rw (← c.byte_at-function.ensures, c.in-5.is) (c.write_coil.ensures c.args.profile)

pub returns-in-6 : goal.returns-in-6
unfolding body_asks
returns-in-6 c = rw (← c.byte_at-function.ensures, c.in-6.is) c.write_register.ensures

pub returns-in-15 : goal.returns-in-15
unfolding body_asks
returns-in-15 c = rw (← c.byte_at-function.ensures, c.in-15.is) (c.write_coils.ensures c.args.profile)

pub returns-in-16 : goal.returns-in-16
unfolding body_asks
returns-in-16 c = rw (← c.byte_at-function.ensures, c.in-16.is) c.write_registers.ensures

pub returns-in-22 : goal.returns-in-22
unfolding body_asks
returns-in-22 c = rw (← c.byte_at-function.ensures, c.in-22.is) c.mask_register.ensures

pub returns-in_default : goal.returns-in_default
unfolding body_asks done
returns-in_default c = rw (← c.byte_at-function.ensures, ne_eqb _ _ c.in_default.in_default-own.rest.0.0.0.0.1, ne_eqb _ _ c.in_default.in_default-own.rest.0.0.0.1, ne_eqb _ _ c.in_default.in_default-own.rest.0.0.1, ne_eqb _ _ c.in_default.in_default-own.rest.0.1, ne_eqb _ _ c.in_default.in_default-own.rest.1)
