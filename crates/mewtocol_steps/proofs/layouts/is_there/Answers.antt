-- Each arm is one layout. Assumes nothing.
use mathlib.Core.Path.{sym, ap, ◌∙◌}
use Prim.Native.Nat.{ℕ, ◌*◌}
use native.Mathlib.Nat.{mul_comm}
use lib.Dec.{eqb}
use lib.ListN.{length}
use Rattle.mewtocol_commands.proofs.OverRows.{times-widths}
use Rattle.mewtocol_steps.proofs.layouts.is_there.Goals as goal

pub returns-in-Counted : goal.returns-in-Counted
returns-in-Counted c =
    let n = c.args.n in
    rw c.in-Counted.is (ap (λ (w : ℕ). eqb (length c.args.text.now) w) (mul_comm n c.wide-in-Counted.result ∙ ap (λ (w : ℕ). w * n) c.wide-in-Counted.ensures.0 ∙ sym (times-widths n _)))
