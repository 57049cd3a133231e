-- The shape, then the operation with its address check. Assumes nothing.
use mathlib.Core.Path.{◌≡◌, refl}
use mathlib.Core.Bool.{true}
use borrow.Author.Tests.{eq-eqb, ne_eqb}
use Rattle.table_registers.specs.Operation.{shows}
use Rattle.table_registers.proofs.Done.{carried-as}
use Rattle.modbus_body.specs.Body.{address, reply_body, mask_register}
use Rattle.modbus_body.proofs.Carry.{not-tried, tried}
use Rattle.modbus_body.specs.Bytes.{word_at}
use Rattle.modbus_body.proofs.Carry.{mask-as}
use Rattle.modbus_body.proofs.words.mask_register.Goals as goal

pub returns-then-body-ne7 : goal.returns-then-body-ne7
returns-then-body-ne7 c = let b = c.args.body.now in not-tried _ _ b mask_register (ne_eqb _ _ c.if-body-ne7.true)

pub returns : goal.returns
unfolding reply_body shows
returns c = let b = c.args.body.now in
    let good : mask_register.fits b ≡ true = eq-eqb _ _ c.if-body-ne7.false in
    tried _ _ b mask_register 7 c.told.result good (carried-as (mask-as _ (address b) _ (word_at b 3) _ (word_at b 5) c.register_at-word.ensures c.word_at.ensures c.word_at-2.ensures) c.mask_word.ensures) refl (c.told.ensures b)
