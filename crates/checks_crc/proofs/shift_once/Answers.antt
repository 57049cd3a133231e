-- `r & 1` is `r % 2`. Assumes nothing.
use mathlib.Core.Logic.{⊎_elim}
use mathlib.Core.Path.{sym, ◌∙◌}
use lib.Bits.{and_mask}
use Rattle.checks_crc.proofs.Register.{even-or-odd, shifted_even, shifted-odd}
use Rattle.checks_crc.proofs.shift_once.Goals as goal

pub returns-then-r-eq1 : goal.returns-then-r-eq1
returns-then-r-eq1 c = let r = c.args.r in sym (shifted-odd r (sym (and_mask r 1) ∙ c.if-r-eq1.true))

pub returns-else-r-eq1 : goal.returns-else-r-eq1
returns-else-r-eq1 c =
    let r = c.args.r in
    ⊎_elim (λ e. sym (shifted_even r e)) (λ e. absurd (c.if-r-eq1.false (and_mask r 1 ∙ e))) (even-or-odd r)
