-- Each verdict has its reply. Assumes nothing.
use Rattle.station.specs.Site.{said}
use Rattle.modbus_body.proofs.replies.told.Goals as goal

pub returns-in-Granted : goal.returns-in-Granted
unfolding said
returns-in-Granted c = λ body. rw c.in-Granted.is

pub returns-in-Lacking : goal.returns-in-Lacking
unfolding said
returns-in-Lacking c = λ body. rw c.in-Lacking.is

pub returns-in-Unfit : goal.returns-in-Unfit
unfolding said
returns-in-Unfit c = λ body. rw c.in-Unfit.is
