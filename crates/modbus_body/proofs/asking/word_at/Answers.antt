-- Two bytes make a word. Assumes nothing.
use mathlib.Core.Path.{ap₂}
use Prim.Native.Nat.{ℕ, ◌+◌, ◌*◌}
use Rattle.modbus_body.specs.Bytes.{word_at}
use Rattle.modbus_body.proofs.asking.word_at.Goals as goal

pub returns : goal.returns
unfolding word_at
returns c = ap₂ (λ (a b : ℕ). a * 256 + b) c.byte_at-high.ensures c.byte_at-low.ensures
