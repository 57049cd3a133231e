-- Wrong, or a run of words. Assumes nothing.
use Rattle.rules.proofs.Choose.{via}
use Rattle.modbus_body.specs.Body.{read_registers}
use Rattle.masters.proofs.Functions.{wrong-body, reads-registers}
use Rattle.masters.proofs.bodies.registers_read.Goals as goal

pub returns-then-not-good_read : goal.returns-then-not-good_read
returns-then-not-good_read c = λ p. wrong-body _ c.args.attributes.now p read_registers c.args.body.now c.nothing.ensures (via c.good_read.ensures c.if-not-good_read.true)

pub returns : goal.returns
returns c = λ p.
    reads-registers _ c.args.attributes.now p c.args.body.now (via c.good_read.ensures c.if-not-good_read.false) c.words_touched.ensures c.register_at.ensures c.word_at-count.ensures
