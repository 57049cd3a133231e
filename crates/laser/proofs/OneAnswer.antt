-- Each promise allows one answer only: what is given says which answer it was. Assumes nothing.
use mathlib.Core.Path.{◌≡◌, refl, sym, ap, ◌∙◌}
use mathlib.Core.List.{List}
use Prim.Native.Nat.{ℕ}
use Rattle.rules.specs.Given.{Given, gives, refused}
use Rattle.laser.specs.Frame.{Read, frame, none, given, given_written, Told, measures, unasked, declined, given_distance, Outcome, Is}
use Rattle.laser.specs.declared.Reading.{Reading}
use Rattle.laser.specs.declared.Reading.TheVariants as reading
use Rattle.laser.specs.declared.Written.{Written}
use Rattle.laser.specs.declared.Written.TheVariants as written
use Rattle.laser.specs.declared.Distance.{Distance}
use Rattle.laser.specs.declared.Distance.TheVariants as distance

abbrev reading_of : Read → Reading
reading_of (frame a b d) = reading.Frame a b
reading_of (none k) = reading.Refused (record { 0 = k })

reading_of-given : (r : Reading) (d : List ℕ) → reading_of (given r d) ≡ r
reading_of-given (reading.Frame a b) d = refl
reading_of-given (reading.Refused r) d = refl

pub one-reading : (x : Read) (d : List ℕ) (r s : Reading) → given r d ≡ x → given s d ≡ x → r ≡ s
one-reading x d r s p q = sym (reading_of-given r d) ∙ ap reading_of (p ∙ sym q) ∙ reading_of-given s d

abbrev written_of : Given → Written
written_of (gives n) = written.Frame n
written_of (refused k) = written.Refused (record { 0 = k })

written_of-given : (w : Written) → written_of (given_written w) ≡ w
written_of-given (written.Frame n) = refl
written_of-given (written.Refused r) = refl

pub one_written : (o : Outcome) (w v : Written) (room room' : List ℕ) → Is o w room → Is o v room' → (w ≡ v) × (room ≡ room')
one_written o w v room room' p q =
    (sym (written_of-given w) ∙ ap written_of (p.answer-is ∙ sym q.answer-is) ∙ written_of-given v, p.room-is ∙ sym q.room-is)

abbrev distance_from : Told → Distance
distance_from (measures v) = distance.Hundredths v
distance_from (unasked p) = distance.NotAsked p
distance_from (declined k) = distance.Refused (record { 0 = k })

distance_from-given : (x : Distance) → distance_from (given_distance x) ≡ x
distance_from-given (distance.Hundredths v) = refl
distance_from-given (distance.NotAsked p) = refl
distance_from-given (distance.Refused r) = refl

pub one-distance : (g : Told) (x y : Distance) → given_distance x ≡ g → given_distance y ≡ g → x ≡ y
one-distance g x y p q = sym (distance_from-given x) ∙ ap distance_from (p ∙ sym q) ∙ distance_from-given y
