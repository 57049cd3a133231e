-- The invariant: what was seen and what is left make the answer for the whole. Assumes nothing.
use Rattle.std.proofs.Common.{refl, ◌∙◌, ℕ}
use Rattle.text_slices.proofs.Walk.{joins, joined}
use Rattle.text_digits.specs.Digits.{is_digit}
use Rattle.text_hex.specs.Hex.{hex_value, all_hex}
use Rattle.text_hex.proofs.all_hex.Goals as goal

pub loop-i-preserved : goal.loop-i-preserved
unfolding all_hex
loop-i-preserved c =
    joins all_hex (λ (x : ℕ). is_digit (hex_value x)) (λ x xs. refl) c.loop-i.i c.args.s.now c.loop-i.fine _ _ c.loop-i-test.true c.is_hex.ensures c.and-fine.ensures ∙ c.loop-i.invariant

pub returns : goal.returns
unfolding all_hex
returns c = joined all_hex refl c.loop-i.i c.args.s.now c.loop-i.fine c.loop-i-test.false c.loop-i.invariant
