-- The shape, then the operation with its address check, then the reply. Assumes nothing.
use mathlib.Core.Path.{◌≡◌, sym, ap, ◌∙◌}
use mathlib.Core.Path.{ap₂}
use mathlib.Core.List.{List, ◌∷◌}
use Prim.Native.Nat.{ℕ}
use native.Mathlib.Omega.{arith}
use lib.ListN.{length, take, drop, length-take}
use Rattle.rules.proofs.Choose.{via}
use Rattle.table_addresses.specs.Catalogue.{address_of}
use Rattle.table_registers.specs.Operation.{shows}
use Rattle.station.proofs.Done.{put_as}
use Rattle.modbus_body.specs.Bytes.{bytes_of_words, counted}
use Rattle.modbus_body.specs.Body.{exception, function, address, quantity, reply_body, read_registers}
use Rattle.modbus_body.proofs.Shape.{read-limits}
use Rattle.modbus_body.proofs.Carry.{wrong-shape, turned_down, not-fit, carried-out, read-carried}
use Rattle.modbus_body.proofs.words.read_registers.Goals as goal

-- the part that was read is the one that the body names
shown : (b w s : List ℕ) (k k' n n' : ℕ) → s ≡ take n (drop k w) → k ≡ k' → n ≡ n'
    → ◌≡◌ {A = List ℕ} (function b ∷ counted (bytes_of_words (take n' (drop k' w)))) (function b ∷ counted (bytes_of_words s))
shown b w s k k' n n' e p q = ap (λ (l : List ℕ). function b ∷ counted (bytes_of_words l)) (sym (e ∙ ap₂ (λ (x y : ℕ). take y (drop x w)) p q))

pub returns-then-not-good_read : goal.returns-then-not-good_read
returns-then-not-good_read c = λ p. let b = c.args.body.now in wrong-shape _ _ b _ _ read_registers (via c.good_read.ensures c.if-not-good_read.true) (put_as (ap (exception b) (sym c.number.ensures)) c.refuse.ensures)

pub show_words-requires : goal.show_words-requires
show_words-requires c = let b = c.args.body.now in
    (c.requires, omega (arith, ap length c.words_from.ensures, length-take c.word_at-count.result (drop (address_of c.register_at-first.result) c.args.words.now), c.word_at-count.ensures, read-limits 125 b (via c.good_read.ensures c.if-not-good_read.false)))

pub returns-in-Granted : goal.returns-in-Granted
unfolding reply_body shows
returns-in-Granted c = λ p. let b = c.args.body.now in
    carried-out _ _ b _ _ read_registers (via c.good_read.ensures c.if-not-good_read.false) (read-carried p _ _ _ (address b) _ (quantity b) _ c.first_lacking.ensures c.register_at-first.ensures c.word_at-count.ensures) c.in-Granted.is
    (put_as (shown b c.args.words.now _ _ (address b) _ (quantity b) c.words_from.ensures c.register_at-first.ensures c.word_at-count.ensures) c.show_words.ensures)

pub returns-in-Lacking : goal.returns-in-Lacking
returns-in-Lacking c = λ p. let b = c.args.body.now in
    turned_down _ _ b _ _ read_registers (via c.good_read.ensures c.if-not-good_read.false) (read-carried p _ _ _ (address b) _ (quantity b) _ c.first_lacking.ensures c.register_at-first.ensures c.word_at-count.ensures) c.in-Lacking.is (put_as (ap (exception b) (sym c.number-in-Lacking.ensures)) c.refuse-in-Lacking.ensures)

pub returns-in-Unfit : goal.returns-in-Unfit
returns-in-Unfit c = λ p. let b = c.args.body.now in
    not-fit _ _ b _ _ read_registers (via c.good_read.ensures c.if-not-good_read.false) (read-carried p _ _ _ (address b) _ (quantity b) _ c.first_lacking.ensures c.register_at-first.ensures c.word_at-count.ensures) c.in-Unfit.is (put_as (ap (exception b) (sym c.number-in-Unfit.ensures)) c.refuse-in-Unfit.ensures)
