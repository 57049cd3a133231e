-- The shape, then the operation with its address check. Assumes nothing.
use mathlib.Core.Path.{◌≡◌, refl, ap, ◌∙◌}
use mathlib.Core.Bool.{true}
use Rattle.rules.proofs.Choose.{via}
use Rattle.table_registers.specs.Operation.{shows}
use Rattle.table_registers.proofs.Done.{carried-as}
use Rattle.modbus_body.specs.Body.{address, quantity, reply_body, write_coils}
use Rattle.modbus_body.proofs.Carry.{not-tried, tried}
use Prim.Native.Nat.{ℕ}
use native.Mathlib.Omega.{arith}
use lib.ListN.{drop}
use Rattle.modbus_body.specs.Bytes.{bytes_for}
use Rattle.modbus_body.specs.Body.{good_write}
use Rattle.modbus_body.proofs.Carry.{coils-as}
use Rattle.modbus_body.proofs.coils.write_coils.Goals as goal

pub returns-then-not-good_write : goal.returns-then-not-good_write
returns-then-not-good_write c = λ p. let b = c.args.body.now in
    let n : bytes_for (quantity b) ≡ c.div_ceil.result = omega (arith, c.word_at-count.ensures, c.div_ceil.ensures) in
    not-tried _ _ b write_coils (ap (λ (k : ℕ). good_write 1968 k b) n ∙ via c.good_write.ensures c.if-not-good_write.true)

pub returns : goal.returns
unfolding reply_body shows
returns c = λ p. let b = c.args.body.now in
    let n : bytes_for (quantity b) ≡ c.div_ceil.result = omega (arith, c.word_at-count.ensures, c.div_ceil.ensures) in
    let good : write_coils.fits b ≡ true = ap (λ (k : ℕ). good_write 1968 k b) n ∙ via c.good_write.ensures c.if-not-good_write.false in
    tried _ _ b write_coils 5 c.told.result good (carried-as (coils-as _ (address b) _ (quantity b) _ (drop 6 b) c.coil_at.ensures.0 c.word_at-count.ensures c.rest.ensures) (c.write_coils.ensures p)) refl (c.told.ensures b)
