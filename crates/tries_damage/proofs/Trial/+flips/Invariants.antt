-- `tries_damage::Trial::flips` calls itself for one bit less: the measure is how many are left to flip. Assumes nothing.
use Rattle.tries_damage.proofs.Trial.+flips.Given as goal

abbrev pub decreases-flips : goal.decreases-flips
decreases-flips l = l.most
