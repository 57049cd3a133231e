-- Wrong, or one word, which is read and written. Assumes nothing.
use borrow.Author.Tests.{eq-eqb, ne_eqb}
use Rattle.modbus_body.specs.Body.{mask_register}
use Rattle.masters.proofs.Functions.{wrong-body, masks-register}
use Rattle.masters.proofs.bodies.register_masked.Goals as goal

pub returns-then-body-ne7 : goal.returns-then-body-ne7
returns-then-body-ne7 c = wrong-body _ c.args.attributes.now c.args.profile mask_register c.args.body.now c.nothing.ensures (ne_eqb _ _ c.if-body-ne7.true)

pub returns : goal.returns
returns c =
    masks-register _ c.args.attributes.now c.args.profile c.args.body.now (eq-eqb _ _ c.if-body-ne7.false)
    c.words_touched.ensures c.register_at-word.ensures c.mask_may_pass-fits.ensures c.word_at.ensures c.word_at-2.ensures
