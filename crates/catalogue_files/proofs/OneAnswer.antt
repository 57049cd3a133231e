-- A file, a name and lent bytes have one answer: what is given says which it was. Assumes nothing.
use mathlib.Core.Path.{◌≡◌, refl, sym, ◌∙◌}
use mathlib.Core.List.{List}
use Prim.Native.Nat.{ℕ}
use Rattle.rules.specs.Given.{Given, gives, refused}
use Rattle.rules.proofs.Once.{once}
use Rattle.catalogue_files.specs.declared.Filled.{Filled}
use Rattle.catalogue_files.specs.declared.Filled.TheVariants.{Done, Refused}
use Rattle.catalogue_files.specs.Refusals.{Outcome, given, Is}

abbrev answer_of : Given → Filled
answer_of (gives n) = Done
answer_of (refused k) = Refused (record { 0 = k })

answer-given : (r : Filled) → answer_of (given r) ≡ r
answer-given Done = refl
answer-given (Refused r) = refl

pub one_answer : (o : Outcome) (r s : Filled) (a b : List ℕ) → Is o r a → Is o s b → (r ≡ s) × (a ≡ b)
one_answer o r s a b p q = (once given answer_of answer-given o.number r s p.number_is q.number_is, p.bytes-is ∙ sym q.bytes-is)
