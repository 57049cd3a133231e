-- Each number is its profile. Assumes nothing.
use mathlib.Core.Path.{sym, ap}
use borrow.Author.Tests.{ne_eqb}
use Rattle.jeulgopae_codes.specs.Asks.{profile_of}
use Rattle.jeulgopae_codes.proofs.asks.profile_of.Goals as goal

pub returns-in-0 : goal.returns-in-0
unfolding profile_of
returns-in-0 c = sym (ap profile_of c.in-0.is)

pub returns-in-1 : goal.returns-in-1
unfolding profile_of
returns-in-1 c = sym (ap profile_of c.in-1.is)

pub returns-in_default : goal.returns-in_default
unfolding profile_of
returns-in_default c = rw (ne_eqb _ 0 c.in_default.in_default-own.rest.0.1, ne_eqb _ 1 c.in_default.in_default-own.rest.1)
