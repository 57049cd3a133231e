-- The worked lines of specs/Examples. The numbers are computed by antt; the records come by a law, since a number as large as the limit is not
-- counted down. Assumes nothing.
use mathlib.Core.Bool.{false}
use mathlib.Core.List.{List, [], ◌∷◌, ◌++◌}
use mathlib.Core.Path.{◌≡◌, refl, ap, ◌∙◌}
use native.Mathlib.Omega.{arith}
use lib.ListN.{take, replicate}
use Rattle.rules.specs.Choice.{between}
use Rattle.text_rooms.specs.Room.{each}
use Rattle.checks_shared.specs.Fold.{fold}
use Rattle.checks_shared.specs.Line.{bit_at, total, flipped}
use Rattle.checks_shared.specs.Right.{same, closed_by}
use Rattle.checks_crc.specs.Crc.{shifted, shifts}
use Rattle.theorems_damage.specs.Damage.{write_one, write_two}
use Rattle.noise_report.specs.Records.{Pair, pair_of, AllFine, whole, after, at_most, these, limit, reading}
use Rattle.noise_report.specs.Numbers.{sum, numbers, outcome}
use Rattle.noise_report.specs.Examples.{frame, clean, passes, Worked}
use Rattle.std.proofs.Common.{Ok}
use Rattle.noise_report.proofs.Reading.{at-end, at_part}
use Rattle.noise_report.proofs.Claimed.{reads-written}

abbrev one : List Pair
one = pair_of frame frame ∷ []

abbrev two : List Pair
two = pair_of frame frame ∷ pair_of write_one write_two ∷ []

fine-two : AllFine two
unfolding AllFine
fine-two = (record { least = omega arith; most = omega arith; alike = refl }, (record { least = omega arith; most = omega arith; alike = refl }, tt))

fine-one : AllFine one
unfolding AllFine
fine-one = (fine-two.0, tt)

read_one : reading clean ≡ these one
unfolding each
read_one = reads-written one fine-one (omega arith)

read-two : reading (clean ++ passes) ≡ these two
unfolding each
read-two = reads-written two fine-two (omega arith)

not-whole : whole (take 17 clean) ≡ false
unfolding whole between
not-whole = refl

three-not-whole : whole (0 ∷ 3 ∷ replicate 6 0) ≡ false
unfolding whole between
three-not-whole = refl

long-not-whole : whole (1 ∷ 1 ∷ replicate 514 0) ≡ false
unfolding whole between
long-not-whole = refl

counted-one : outcome (these one) ≡ Ok (numbers 1 0 0 0 0)
unfolding sum flipped total bit_at closed_by same fold shifts shifted
counted-one = refl

counted-two : outcome (these two) ≡ Ok (numbers 2 0 4 0 1)
unfolding sum flipped total bit_at closed_by same fold shifts shifted
counted-two = refl

counted_none : outcome (these []) ≡ Ok (numbers 0 0 0 0 0)
unfolding sum
counted_none = refl

counted-faulty : outcome (these (pair_of (replicate 4 0) (replicate 4 0xFF) ∷ [])) ≡ Ok (numbers 1 1 0 0 0)
unfolding sum flipped total bit_at closed_by same fold shifts shifted
counted-faulty = refl

counted-refused : outcome (these (pair_of frame (replicate 8 0) ∷ [])) ≡ Ok (numbers 1 0 6 1 0)
unfolding sum flipped total bit_at closed_by same fold shifts shifted
counted-refused = refl

pub worked : Worked
unfolding at_most whole between after
worked = record {
  line = ap outcome read_one ∙ counted-one;
  four-bits = ap outcome read-two ∙ counted-two;
  empty = ap outcome (at-end limit) ∙ counted_none;
  faulty = counted-faulty;
  refused = counted-refused;
  ends-inside = at_part limit (take 17 clean) (omega arith) not-whole;
  three = at_part limit (0 ∷ 3 ∷ replicate 6 0) (omega arith) three-not-whole;
  too_long = at_part limit (1 ∷ 1 ∷ replicate 514 0) (omega arith) long-not-whole;
  too_many = refl;
}
