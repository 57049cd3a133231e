-- Wrong, or a run of coils. Assumes nothing.
use Prim.Native.Nat.{ℕ}
use mathlib.Core.Path.{sym, ap, ◌∙◌}
use Rattle.rules.proofs.Choose.{via}
use Rattle.modbus_body.specs.Bytes.{bytes_for}
use Rattle.modbus_body.specs.Body.{good_write, write_coils}
use Rattle.masters.proofs.Functions.{wrong-body, writes-coils}
use Rattle.masters.proofs.bodies.coils_written.Goals as goal

pub returns-then-not-good_write : goal.returns-then-not-good_write
returns-then-not-good_write c = λ p.
    let b = c.args.body.now in
    wrong-body _ c.args.attributes.now p write_coils b c.nothing.ensures
    (ap (λ (n : ℕ). good_write 1968 (bytes_for n) b) (sym c.word_at-count.ensures) ∙ via c.good_write.ensures c.if-not-good_write.true)

pub returns : goal.returns
returns c = λ p.
    let b = c.args.body.now in
    writes-coils _ c.args.attributes.now p b
    (ap (λ (n : ℕ). good_write 1968 (bytes_for n) b) (sym c.word_at-count.ensures) ∙ via c.good_write.ensures c.if-not-good_write.false)
    c.coils_touched.ensures c.coil_at.ensures.0 c.word_at-count.ensures
