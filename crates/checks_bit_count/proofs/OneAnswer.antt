-- The promise of `bits_differing` allows one answer only: what is given says which answer it was. Assumes nothing.
use mathlib.Core.Path.{◌≡◌, refl, sym, ap, ◌∙◌}
use Rattle.rules.specs.Given.{Given, gives, refused}
use Rattle.checks_bit_count.specs.Differing.{given}
use Rattle.checks_bit_count.specs.declared.BitCount.{BitCount}
use Rattle.checks_bit_count.specs.declared.BitCount.TheVariants.{Bits, Refused}

-- the answer that is given so
abbrev answer_of : Given → BitCount
answer_of (gives n) = Bits n
answer_of (refused k) = Refused (record { 0 = k })

answer_of-given : (a : BitCount) → answer_of (given a) ≡ a
answer_of-given (Bits n) = refl
answer_of-given (Refused r) = refl

pub one_answer : (a b : BitCount) (g : Given) → given a ≡ g → given b ≡ g → a ≡ b
one_answer a b g p q = sym (answer_of-given a) ∙ ap answer_of (p ∙ sym q) ∙ answer_of-given b
