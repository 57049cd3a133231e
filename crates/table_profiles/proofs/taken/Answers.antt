-- Each profile has its rows, whatever is brought. Assumes nothing.
use Rattle.table_profiles.specs.Runs.{run_taken}
use Rattle.table_profiles.proofs.taken.Goals as goal

pub returns-in-Free : goal.returns-in-Free
unfolding run_taken
returns-in-Free c = rw c.in-Free.is
