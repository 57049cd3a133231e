-- `noise_report::start` meets its contract. Assumes nothing.
use Rattle.noise_report.proofs.Hearing.{heard-nothing}
use Rattle.noise_report.proofs.start.Goals as goal

pub returns : goal.returns
returns c room = heard-nothing room
