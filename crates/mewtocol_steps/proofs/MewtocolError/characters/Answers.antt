-- Each character is the digit of its half. Assumes nothing.
use mathlib.Core.Path.{ap, ap₂, sym, ◌∙◌}
use mathlib.Core.List.{[], ◌∷◌}
use Prim.Native.Nat.{ℕ}
use Rattle.text_hex.specs.Hex.{hex_byte}
use Rattle.text_hex.proofs.Back.{hex_byte-cells}
use Rattle.mewtocol_steps.proofs.MewtocolError.characters.Goals as goal

pub returns : goal.returns
returns c = ap₂ (λ (a b : ℕ). a ∷ b ∷ []) c.hex_digit.ensures c.hex_digit-2.ensures ∙ sym (hex_byte-cells _) ∙ ap hex_byte c.number-n.ensures
