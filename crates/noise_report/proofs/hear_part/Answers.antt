-- `noise_report::hear_part` meets its contract: a part that fits is written behind what the room has, and settled. Assumes nothing.
use Rattle.noise_report.proofs.Hearing.{goes_on}
use Rattle.noise_report.proofs.hear_part.Goals as goal

pub returns : goal.returns
returns c big s heard up =
    goes_on s _ _ _ _ _ _ up c.put_part.ensures c.part_of.ensures c.settle.ensures heard
