-- Wrong, or one word. Assumes nothing.
use borrow.Author.Tests.{eq-eqb, ne_eqb}
use Rattle.modbus_body.specs.Body.{write_register}
use Rattle.masters.proofs.Functions.{wrong-body, writes-register}
use Rattle.masters.proofs.bodies.register_written.Goals as goal

pub returns-then-body-ne5 : goal.returns-then-body-ne5
returns-then-body-ne5 c = wrong-body _ c.args.attributes.now c.args.profile write_register c.args.body.now c.nothing.ensures (ne_eqb _ _ c.if-body-ne5.true)

pub returns : goal.returns
returns c =
    writes-register _ c.args.attributes.now c.args.profile c.args.body.now _ (eq-eqb _ _ c.if-body-ne5.false) c.bytes_written.ensures c.register_at.ensures c.rest.ensures
