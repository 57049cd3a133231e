-- What was read, its data counted by the frame's length. Assumes nothing.
use mathlib.Core.Path.{sym, ap, ◌∙◌}
use Prim.Native.Nat.{ℕ, ◌+◌, ◌*◌}
use native.Mathlib.Omega.{arith}
use lib.IntN.{pos}
use lib.ListN.{length}
use Rattle.laser.proofs.ReadFrames.{told, read_is}
use Rattle.jeulgopae_codes.specs.Codes.{laser_code}
use Rattle.jeulgopae_codes.proofs.Signed.{out}
use Rattle.jeulgopae.proofs.Bounds.{read_short, data-count}
use Rattle.jeulgopae.proofs.head.jeulgopae_laser_read.Goals as goal

pub overflow_sub-frame : goal.overflow_sub-frame
overflow_sub-frame c = omega (arith, read_is _ _ _ _ (told _ _ _ c.read_frame.ensures c.in-Frame.is))

pub layout-requires : goal.layout-requires
layout-requires c = omega (arith, read_short _ _ _ _ (told _ _ _ c.read_frame.ensures c.in-Frame.is))

pub returns-in-Frame : goal.returns-in-Frame
returns-in-Frame c = let t = told _ _ _ c.read_frame.ensures c.in-Frame.is in let r = read_is _ _ _ _ t in out (record { sfits = c.layout.type_inv }) (c.layout.ensures ∙ ap (λ (k : ℕ). pos (65536 * c.in-Frame.first + 256 * c.in-Frame.second + k)) (data-count c.args.frame.now r.1 ∙ sym (ap length r.0)) ∙ sym (ap laser_code t))
