-- The invariant: the digits that are left, written now, make the whole. Assumes nothing.
use Rattle.std.proofs.Common.{◌≡◌, ◌-◌, length}
use Rattle.text_digits.specs.Digits.{decimals}
use Rattle.text_rooms.specs.Room.{overwrite}
use Rattle.text_decimals.proofs.put_decimal.Given as goal

abbrev pub invariant-loop-done : goal.invariant-loop-done
invariant-loop-done l = (length l.out ≡ length l.initial.out) × (overwrite l.out l.at (decimals (l.k - l.done) l.v) ≡ overwrite l.initial.out l.at (decimals l.k l.number))
