-- What repeats has its width each time. Assumes nothing.
use mathlib.Core.Path.{◌≡◌, sym, ap, ap₂, ◌∙◌}
use mathlib.Core.List.{[], ◌∷◌}
use Prim.Native.Nat.{ℕ, ◌+◌, ◌*◌}
use native.Mathlib.Nat.{mul_comm}
use Rattle.mewtocol_commands.specs.Rows.{times, widths}
use Rattle.mewtocol_commands.specs.declared.Field.TheVariants.{Word}
use Rattle.mewtocol_commands.proofs.OverRows.{widths-append, times-widths}
use Rattle.mewtocol_steps.proofs.layouts.total.Goals as goal

pub returns-in-Counted : goal.returns-in-Counted
returns-in-Counted c =
    let n = c.args.n in
    rw c.in-Counted.is (mul_comm n c.wide-in-Counted.result ∙ ap (λ (w : ℕ). w * n) c.wide-in-Counted.ensures.0 ∙ sym (times-widths n _))

pub returns-in-WithWords : goal.returns-in-WithWords
returns-in-WithWords c =
    let n = c.args.n in
    let unit : c.wide-in-WithWords-2.result ≡ widths (Word ∷ []) = c.wide-in-WithWords-2.ensures.0 ∙ ap widths c.word.ensures in
    rw c.in-WithWords.is
    (ap₂ (λ (a b : ℕ). a + b) c.wide-in-WithWords.ensures.0 (mul_comm n c.wide-in-WithWords-2.result ∙ ap (λ (w : ℕ). w * n) unit ∙ sym (times-widths n (Word ∷ [])))
    ∙ sym (widths-append _ (times n (Word ∷ []))))
