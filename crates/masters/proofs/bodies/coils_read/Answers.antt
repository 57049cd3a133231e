-- Wrong, or a run of coils. Assumes nothing.
use Rattle.rules.proofs.Choose.{via}
use Rattle.modbus_body.specs.Body.{read_coils}
use Rattle.masters.proofs.Functions.{wrong-body, reads-coils}
use Rattle.masters.proofs.bodies.coils_read.Goals as goal

pub returns-then-not-good_read : goal.returns-then-not-good_read
returns-then-not-good_read c = λ p. wrong-body _ c.args.attributes.now p read_coils c.args.body.now c.nothing.ensures (via c.good_read.ensures c.if-not-good_read.true)

pub returns : goal.returns
returns c = λ p.
    reads-coils _ c.args.attributes.now p c.args.body.now (via c.good_read.ensures c.if-not-good_read.false) c.coils_touched.ensures c.coil_at.ensures.0 c.word_at.ensures
