-- Wrong, or one coil. Assumes nothing.
use Rattle.rules.proofs.Choose.{via}
use Rattle.modbus_body.specs.Body.{write_coil}
use Rattle.masters.proofs.Functions.{wrong-body, writes-coil}
use Rattle.masters.proofs.bodies.coil_written.Goals as goal

pub returns-then-not-good_coil : goal.returns-then-not-good_coil
returns-then-not-good_coil c = λ p. wrong-body _ c.args.attributes.now p write_coil c.args.body.now c.nothing.ensures (via c.good_coil.ensures c.if-not-good_coil.true)

pub returns : goal.returns
returns c = λ p. writes-coil _ c.args.attributes.now p c.args.body.now (via c.good_coil.ensures c.if-not-good_coil.false) c.coils_touched.ensures c.coil_at.ensures.0
