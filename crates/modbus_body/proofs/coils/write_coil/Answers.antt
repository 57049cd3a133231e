-- The shape, then the operation with its address check. Assumes nothing.
use mathlib.Core.Path.{◌≡◌, refl, ap, ◌∙◌}
use mathlib.Core.Bool.{true}
use Rattle.rules.proofs.Choose.{via}
use Rattle.table_registers.specs.Operation.{shows}
use Rattle.table_registers.proofs.Done.{carried-as}
use Rattle.modbus_body.specs.Body.{address, reply_body, write_coil}
use Rattle.modbus_body.proofs.Carry.{not-tried, tried}
use lib.ListN.{drop}
use Rattle.table_registers.specs.Operation.{write_bits}
use Rattle.modbus_body.specs.Body.{coils}
use Rattle.modbus_body.proofs.Shape.{coil-bit}
use Rattle.modbus_body.proofs.Carry.{coils-as}
use Rattle.modbus_body.proofs.coils.write_coil.Goals as goal

pub returns-then-not-good_coil : goal.returns-then-not-good_coil
returns-then-not-good_coil c = λ p. let b = c.args.body.now in not-tried _ _ b write_coil (via c.good_coil.ensures c.if-not-good_coil.true)

pub returns : goal.returns
unfolding reply_body shows
returns c = λ p. let b = c.args.body.now in
    let good : write_coil.fits b ≡ true = via c.good_coil.ensures c.if-not-good_coil.false in
    tried _ _ b write_coil 5 c.told.result good (carried-as (coils-as _ (address b) 1 1 _ (drop 3 b) c.coil_at.ensures.0 refl c.rest.ensures ∙ ap (write_bits (coils b 1)) (coil-bit b (c.shared_slice_known-2-1.given 4).fits good)) (c.write_coils.ensures p)) refl (c.told.ensures b)
