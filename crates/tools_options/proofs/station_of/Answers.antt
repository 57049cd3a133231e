-- What the number says, and that it is not 0. Assumes nothing.
use borrow.Author.Tests.{eq-eqb, ne_eqb}
use mathlib.Core.Path.{sym, ap, ◌∙◌}
use Prim.Native.Nat.{ℕ}
use lib.Dec.{eqb}
use Rattle.std.proofs.Common.{Option, Some, None}
use Rattle.rules.specs.Choice.{pick}
use Rattle.rules.proofs.Choose.{pick_yes, pick_no}
use Rattle.tools_typed.specs.Typed.{with_typed}
use Rattle.tools_options.specs.Options.{station}
use Rattle.tools_options.proofs.station_of.Goals as goal

-- a number is a station unless it is 0
abbrev named : Option ℕ → Option ℕ
named m = with_typed m (λ n. pick (eqb n 0) None (Some n)) None

pub returns-in_err-n : goal.returns-in_err-n
unfolding station
returns-in_err-n c = c.from_residual.ensures ∙ ap named c.in_err-n.ensures

pub returns-then-n-eq0 : goal.returns-then-n-eq0
unfolding station
returns-then-n-eq0 c = sym (sym (ap named c.in_ok-n.ensures) ∙ pick_yes _ _ _ (eq-eqb _ _ c.if-n-eq0.true))

pub returns : goal.returns
unfolding station
returns c = sym (sym (ap named c.in_ok-n.ensures) ∙ pick_no _ _ _ (ne_eqb _ _ c.if-n-eq0.false))
