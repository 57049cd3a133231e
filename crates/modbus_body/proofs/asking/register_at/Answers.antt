-- Two bytes of the body. Assumes nothing.
use mathlib.Core.Path.{◌∙◌}
use mathlib.Core.Path.{ap₂}
use Prim.Native.Nat.{ℕ, ◌+◌, ◌*◌}
use Rattle.modbus_body.specs.Bytes.{word_at}
use Rattle.modbus_body.proofs.asking.register_at.Goals as goal

pub returns : goal.returns
unfolding word_at
returns c = c.in_bytes.ensures ∙ ap₂ (λ (x y : ℕ). x * 256 + y) c.byte_at.ensures c.byte_at-2.ensures
