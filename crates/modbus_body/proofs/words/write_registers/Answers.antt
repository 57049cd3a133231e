-- The shape, then the operation with its address check. Assumes nothing.
use mathlib.Core.Path.{◌≡◌, refl, sym, ap, ◌∙◌}
use mathlib.Core.Bool.{true}
use Rattle.rules.proofs.Choose.{via}
use Rattle.table_registers.specs.Operation.{shows}
use Rattle.table_registers.proofs.Done.{carried-as}
use Rattle.modbus_body.specs.Body.{address, quantity, reply_body, write_registers}
use Rattle.modbus_body.proofs.Carry.{not-tried, tried}
use Prim.Native.Nat.{ℕ, ◌*◌}
use lib.ListN.{drop}
use Rattle.modbus_body.specs.Body.{good_write}
use Rattle.modbus_body.proofs.Shape.{write-limits, bytes-halved}
use Rattle.modbus_body.proofs.Carry.{words-as}
use Rattle.modbus_body.proofs.words.write_registers.Goals as goal

pub returns-then-not-good_write : goal.returns-then-not-good_write
returns-then-not-good_write c = let b = c.args.body.now in not-tried _ _ b write_registers (ap (λ (n : ℕ). good_write 123 (2 * n) b) (sym c.word_at-count.ensures) ∙ via c.good_write.ensures c.if-not-good_write.true)

pub returns : goal.returns
unfolding reply_body shows
returns c = let b = c.args.body.now in
    let good : write_registers.fits b ≡ true = ap (λ (n : ℕ). good_write 123 (2 * n) b) (sym c.word_at-count.ensures) ∙ via c.good_write.ensures c.if-not-good_write.false in
    tried _ _ b write_registers 5 c.told.result good (carried-as (words-as _ (address b) (quantity b) _ (drop 6 b) c.register_at.ensures c.rest.ensures (bytes-halved b (write-limits 123 _ b good).2)) c.write_bytes.ensures) refl (c.told.ensures b)
