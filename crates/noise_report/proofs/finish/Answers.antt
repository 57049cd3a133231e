-- `noise_report::finish` meets its contract. Assumes nothing.
use native.Mathlib.Omega.{arith}
use mathlib.Core.Path.{subst}
use Rattle.std.proofs.lemmas.Result.{err_from_is_err_and}
use Rattle.noise_report.specs.Heard.{Reader, Heard}
use Rattle.noise_report.proofs.Hearing.{ends-bad, ends-inside, ends-whole}
use Rattle.noise_report.proofs.finish.Goals as goal

pub returns-in_err-report : goal.returns-in_err-report
returns-in_err-report c s room heard =
    let p = err_from_is_err_and c.from_residual.result c.from_residual.ensures.1 in
    rw p.1 (ends-bad s room (subst (λ (r : Reader). Heard s r room) c.in_err-report.was heard))

pub returns-then-have-gt0 : goal.returns-then-have-gt0
returns-then-have-gt0 c s room heard =
    ends-inside s room _ (λ e. omega arith) (subst (λ (r : Reader). Heard s r room) c.in_ok-report.was heard)

pub returns : goal.returns
returns c s room heard =
    ends-whole s room _ (omega arith) (subst (λ (r : Reader). Heard s r room) c.in_ok-report.was heard)
