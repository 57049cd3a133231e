-- The shape, then the operation with its address check. Assumes nothing.
use mathlib.Core.Path.{◌≡◌, refl}
use mathlib.Core.Bool.{true}
use borrow.Author.Tests.{eq-eqb, ne_eqb}
use Rattle.table_registers.specs.Operation.{shows}
use Rattle.table_registers.proofs.Done.{carried-as}
use Rattle.modbus_body.specs.Body.{address, quantity, reply_body, write_register}
use Rattle.modbus_body.proofs.Carry.{not-tried, tried, fill_one, fill-as}
use Rattle.modbus_body.proofs.words.write_register.Goals as goal

pub returns-then-body-ne5 : goal.returns-then-body-ne5
returns-then-body-ne5 c = let b = c.args.body.now in not-tried _ _ b write_register (ne_eqb _ _ c.if-body-ne5.true)

pub returns : goal.returns
unfolding reply_body shows
returns c =
    let f = c in
    let s = f in
    let a = s.args in
    let b = a.body.now in
    let good : write_register.fits b ≡ true = eq-eqb _ _ s.if-body-ne5.false in
    tried _ _ b write_register 5 c.told.result good
    (fill_one a.profile a.attributes.now a.words.now (address b) (quantity b) (carried-as (fill-as _ (address b) _ (quantity b) f.register_at-word.ensures f.word_at.ensures) f.fill_words.ensures)) refl (c.told.ensures b)
