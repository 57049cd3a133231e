-- Each way rewrites with the value that led there. Assumes nothing.
use mathlib.Core.Path.{ap, ◌∙◌}
use Rattle.text_digits.specs.Digits.{decimal}
use Rattle.rules.proofs.Choose.{via}
use Rattle.mewtocol_frame.specs.Frame.{for_station}
use Rattle.mewtocol_frame.proofs.frame.for_station.Goals as goal

pub returns-in-Value : goal.returns-in-Value
unfolding for_station
returns-in-Value c = rw (via (c.decimal_2.ensures ∙ ap (decimal 2) c.rest.ensures) c.in-Value.is)

pub returns-in-NoDigitAt : goal.returns-in-NoDigitAt
unfolding for_station
returns-in-NoDigitAt c = rw (via (c.decimal_2.ensures ∙ ap (decimal 2) c.rest.ensures) c.in-NoDigitAt.is)
