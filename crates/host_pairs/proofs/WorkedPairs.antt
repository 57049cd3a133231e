-- The ends, computed. Assumes nothing.
use mathlib.Core.Path.{refl}
use Rattle.host_pairs.specs.Pairs.{pair_value, pair_words}
use Rattle.host_pairs.specs.Statements.{ReadEnds, WrittenEnds}

pub read-ends : ReadEnds
unfolding pair_value
read-ends = record { zero_is = refl; greatest = refl; least = refl; minus_one = refl; most = refl; minus-most = refl }

pub written-ends : WrittenEnds
unfolding pair_words
written-ends =
    record { zero_is = refl; minus_one = refl; most = refl; minus-most = refl; one_more = refl; one_less = refl; greatest = refl; least = refl }
