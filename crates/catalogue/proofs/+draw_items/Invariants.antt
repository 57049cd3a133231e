-- The measure: the levels that are left. Assumes nothing.
use Rattle.std.proofs.Common.{◌-◌}
use Rattle.catalogue.proofs.+draw_items.Given as goal

abbrev pub decreases-draw_items : goal.decreases-draw_items
decreases-draw_items g l = 4 - l.level
