-- The high bytes move down, and the table holds what the low byte becomes. Assumes nothing.
use mathlib.Core.Path.{sym, ap, ◌∙◌}
use Prim.Native.Nat.{◌/◌, ◌%◌}
use native.Mathlib.Omega.{arith}
use lib.Bits.{bit_xor}
use Rattle.checks_crc.proofs.Register.{byte-out}
use Rattle.checks_crc.proofs.byte_out.Goals as goal

pub returns : goal.returns
returns c =
    let start = c in
    let x = start.args.x in
    ap (bit_xor (x / 256)) (start.requires (x % 256) (omega arith)) ∙ sym (byte-out x)
