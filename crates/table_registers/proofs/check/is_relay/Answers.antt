-- `check::is_relay` meets its contract: each way rewrites with the test that led there. Assumes nothing.
use Rattle.rules.specs.Choice.{between}
use Rattle.rules.proofs.Choose.{tests}
use Rattle.table_registers.proofs.check.is_relay.Goals as goal

pub returns-then-k-ge-FIRST_RELAY : goal.returns-then-k-ge-FIRST_RELAY
unfolding between
returns-then-k-ge-FIRST_RELAY c = search tests

pub returns-else-k-ge-FIRST_RELAY : goal.returns-else-k-ge-FIRST_RELAY
unfolding between
returns-else-k-ge-FIRST_RELAY c = search tests
