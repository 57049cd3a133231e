-- `noise_report::step` meets its contract: a list's report is small, and that of one record more is the sum of the two. Assumes nothing.
use mathlib.Core.Bool.{false≢true}
use mathlib.Core.Path.{sym, ap₂, ◌∙◌, subst}
use native.Mathlib.Omega.{arith}
use Rattle.rules.proofs.Choose.{via}
use Rattle.noise_report.specs.Numbers.{Small, sum_of}
use Rattle.noise_report.proofs.Counted.{report-append}
use Rattle.noise_report.proofs.Small.{report-small}
use Rattle.noise_report.proofs.step.Goals as goal

pub returns-then-is_small : goal.returns-then-is_small
returns-then-is_small c rs fine few e one =
    c.plus.ensures ∙ ap₂ sum_of e (c.report_of_one.ensures.value one) ∙ report-append rs _

pub returns : goal.returns
returns c rs fine few e one =
    absurd (false≢true (via c.if-is_small.false (c.is_small.ensures.value (subst Small (sym e) (report-small rs fine (omega arith))))))
