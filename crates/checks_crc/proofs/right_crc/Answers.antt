-- The last two bytes are compared as one word. Assumes nothing.
use mathlib.Core.Path.{◌≡◌, sym, ap, ap₂, ◌∙◌}
use Prim.Native.Nat.{ℕ, ◌+◌, ◌*◌, ◌-◌}
use native.Mathlib.Omega.{arith}
use lib.Dec.{eqb}
use lib.ListN.{length, get_or}
use Rattle.checks_shared.proofs.Closed.{closed-short}
use Rattle.checks_crc.specs.Crc.{crc_bytes}
use Rattle.checks_crc.proofs.Closing.{right-crc-word}
use Rattle.checks_crc.proofs.right_crc.Goals as goal

pub returns-then-n-lt2 : goal.returns-then-n-lt2
returns-then-n-lt2 c = sym (closed-short crc_bytes c.args.frame.now c.if-n-lt2.true)

pub returns : goal.returns
returns c =
    let f = c.args.frame.now in
    let n = length f in
    let next : n - 2 + 1 ≡ n - 1 = omega arith in
    let word = c.low_first.ensures ∙ ap (λ (k : ℕ). get_or f (n - 2) 0 + 256 * get_or f k 0) next in
    ap₂ eqb word c.crc_before.ensures
    ∙ sym (right-crc-word f (omega arith) (omega (arith, c.type_inv.frame (n - 2))) (omega (arith, c.type_inv.frame (n - 1))))
