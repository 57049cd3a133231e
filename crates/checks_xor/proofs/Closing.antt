-- A front followed by its exclusive or is right, and how large an exclusive or can be. Assumes nothing.
use mathlib.Core.Bool.{true}
use mathlib.Core.List.{List, ◌++◌}
use mathlib.Core.Path.{◌≡◌, ap}
use Prim.Native.Nat.{ℕ, ◌<◌}
use lib.Bits.{bit_xor}
use lib.Bits as Bits
use lib.Dec.{lit<}
use lib.ListN.{length}
use Rattle.text_hex.proofs.Back.{hex_byte-cells}
use Rattle.checks_shared.specs.Line.{Bytes}
use Rattle.checks_shared.proofs.Closed.{closed-join}
use Rattle.checks_shared.proofs.Fold.{fold-lt}
use Rattle.checks_xor.specs.Xor.{xor_of, xor_bytes, right_xor}

pub xor-keeps : (r b : ℕ) → r < 256 → b < 256 → bit_xor r b < 256
xor-keeps r b hr hb = Bits.xor_lt 8 r b hr hb

pub xor_lt : (m : List ℕ) → Bytes m → xor_of m < 256
xor_lt m h = fold-lt bit_xor 256 xor-keeps 0 m (lit< tt) h

pub right-xor-of : (m : List ℕ) → right_xor (m ++ xor_bytes m) ≡ true
right-xor-of m = closed-join xor_bytes m (ap length (hex_byte-cells (xor_of m)))
