-- Wrong, or a run of words. Assumes nothing.
use Prim.Native.Nat.{ℕ, ◌*◌}
use mathlib.Core.Path.{sym, ap, ◌∙◌}
use Rattle.rules.proofs.Choose.{via}
use Rattle.modbus_body.specs.Body.{good_write, write_registers}
use Rattle.masters.proofs.Functions.{wrong-body, writes-registers}
use Rattle.masters.proofs.bodies.registers_written.Goals as goal

pub returns-then-not-good_write : goal.returns-then-not-good_write
returns-then-not-good_write c =
    let b = c.args.body.now in
    wrong-body _ c.args.attributes.now c.args.profile write_registers b c.nothing.ensures
    (ap (λ (n : ℕ). good_write 123 (2 * n) b) (sym c.word_at-count.ensures) ∙ via c.good_write.ensures c.if-not-good_write.true)

pub returns : goal.returns
returns c =
    let b = c.args.body.now in
    writes-registers _ c.args.attributes.now c.args.profile b _
    (ap (λ (n : ℕ). good_write 123 (2 * n) b) (sym c.word_at-count.ensures) ∙ via c.good_write.ensures c.if-not-good_write.false)
    c.bytes_written.ensures c.register_at.ensures c.word_at-count.ensures c.rest.ensures
