-- The shape, then the operation with its address check, then the reply. Assumes nothing.
use mathlib.Core.Path.{◌≡◌, sym, ap, ◌∙◌}
use mathlib.Core.Path.{ap₂}
use mathlib.Core.Bool.{true}
use mathlib.Core.List.{List, ◌∷◌}
use Prim.Native.Nat.{ℕ}
use native.Mathlib.Omega.{arith}
use lib.ListN.{length}
use Rattle.rules.proofs.Choose.{via}
use Rattle.table_addresses.specs.Areas.{coil_cell}
use Rattle.table_registers.specs.Operation.{shows}
use Rattle.station.proofs.Done.{put_as}
use Rattle.modbus_body.specs.Bytes.{bytes_for, packed, counted}
use Rattle.modbus_body.specs.Body.{exception, function, address, quantity, reply_body, read_coils}
use Rattle.modbus_body.proofs.Packed.{cells, cells-length}
use Rattle.modbus_body.proofs.Shape.{read-limits}
use Rattle.modbus_body.proofs.Carry.{wrong-shape, turned_down, not-fit, carried-out, bits-carried}
use Rattle.modbus_body.proofs.coils.read_coils.Goals as goal

-- the cells that were read are those that the body names
shown : (b w : List ℕ) (k k' n n' : ℕ) → k ≡ k' → n ≡ n'
    → ◌≡◌ {A = List ℕ} (function b ∷ counted (packed (bytes_for (length (cells w k' n'))) (cells w k' n'))) (function b ∷ counted (packed (bytes_for n) (cells w k n)))
shown b w k k' n n' p q =
    ap (λ (m : ℕ). function b ∷ counted (packed (bytes_for m) (cells w k' n'))) (cells-length w k' n')
    ∙ ap₂ (λ (x y : ℕ). function b ∷ counted (packed (bytes_for y) (cells w x y))) (sym p) (sym q)

pub returns-then-not-good_read : goal.returns-then-not-good_read
returns-then-not-good_read c = λ p. let b = c.args.body.now in wrong-shape _ _ b _ _ read_coils (via c.good_read.ensures c.if-not-good_read.true) (put_as (ap (exception b) (sym c.number.ensures)) c.refuse.ensures)

pub show_cells-requires : goal.show_cells-requires
show_cells-requires c = let b = c.args.body.now in
    omega (arith, c.requires, c.cell.ensures, c.coil_at-first.ensures.1, c.word_at-count.ensures, read-limits 2000 b (via c.good_read.ensures c.if-not-good_read.false))

pub returns-in-Granted : goal.returns-in-Granted
unfolding reply_body shows
returns-in-Granted c = λ p. let b = c.args.body.now in
    let good : read_coils.fits b ≡ true = via c.good_read.ensures c.if-not-good_read.false in
    carried-out _ _ b _ _ read_coils good (bits-carried p _ _ _ (address b) _ (quantity b) _ c.first_lacking_coil.ensures c.coil_at-first.ensures.0 c.word_at-count.ensures) c.in-Granted.is
    (put_as (shown b c.args.words.now c.cell.result (coil_cell (address b)) c.word_at-count.result (quantity b) (c.cell.ensures ∙ ap coil_cell c.coil_at-first.ensures.0) c.word_at-count.ensures) c.show_cells.ensures)

pub returns-in-Lacking : goal.returns-in-Lacking
returns-in-Lacking c = λ p. let b = c.args.body.now in
    turned_down _ _ b _ _ read_coils (via c.good_read.ensures c.if-not-good_read.false) (bits-carried p _ _ _ (address b) _ (quantity b) _ c.first_lacking_coil.ensures c.coil_at-first.ensures.0 c.word_at-count.ensures) c.in-Lacking.is (put_as (ap (exception b) (sym c.number-in-Lacking.ensures)) c.refuse-in-Lacking.ensures)

pub returns-in-Unfit : goal.returns-in-Unfit
returns-in-Unfit c = λ p. let b = c.args.body.now in
    not-fit _ _ b _ _ read_coils (via c.good_read.ensures c.if-not-good_read.false) (bits-carried p _ _ _ (address b) _ (quantity b) _ c.first_lacking_coil.ensures c.coil_at-first.ensures.0 c.word_at-count.ensures) c.in-Unfit.is (put_as (ap (exception b) (sym c.number-in-Unfit.ensures)) c.refuse-in-Unfit.ensures)
