-- What a station gave, as a number, stands beside its words and its room. Assumes nothing.
use mathlib.Core.Path.{◌≡◌, ap, ◌∙◌}
use mathlib.Core.List.{List}
use Prim.Native.Nat.{ℕ}
use lib.IntN.{ℤ}
use Rattle.station.specs.Outcome.{Outcome, Is, given}
use Rattle.station.specs.declared.Answer.{Answer}
use Rattle.jeulgopae_codes.specs.Codes.{answer_code}
use Rattle.jeulgopae.specs.Codes.{Stands}

pub stands : {o : Outcome} {a : Answer} {r : ℤ} {words room : List ℕ} → Is o a words room → r ≡ answer_code (given a) → Stands o r words room
stands is e = record { number_is = e ∙ ap answer_code is.answer-is; words-is = is.words-is; room-is = is.room-is }
