-- The promise of `tested` allows one answer only: what an answer says tells which it was, and an error's number which error. Assumes nothing.
use mathlib.Core.Path.{◌≡◌, refl, sym, ap, ◌∙◌}
use Prim.Native.Nat.{ℕ}
use lib.Dec.{eqb}
use Rattle.rules.specs.Choice.{pick}
use Rattle.mewtocol_steps.specs.Steps.{Outcome, wrong, range, number, says}
use Rattle.mewtocol_steps.specs.declared.MewtocolError.{MewtocolError}
use Rattle.mewtocol_steps.specs.declared.MewtocolError.TheVariants.{Check, Format, Command, Parameter, Data, Address}
use Rattle.mewtocol_steps.specs.declared.Passed.{Passed}
use Rattle.mewtocol_steps.specs.declared.Passed.TheVariants.{Fine, Wrong}

-- the error that has this number
abbrev pub error_back : ℕ → MewtocolError
error_back k =
    pick (eqb k 0x40) Check (pick (eqb k 0x41) Format (pick (eqb k 0x42) Command (pick (eqb k 0x60) Parameter (pick (eqb k 0x61) Data Address))))

pub error-back : (e : MewtocolError) → error_back (number e) ≡ e
error-back Check = refl
error-back Format = refl
error-back Command = refl
error-back Parameter = refl
error-back Data = refl
error-back Address = refl

pub number-injective : (a b : MewtocolError) → number a ≡ number b → a ≡ b
number-injective a b h = sym (error-back a) ∙ ap error_back h ∙ error-back b

-- the answer that says this
abbrev passed_back : Outcome → Passed
passed_back (wrong k) = Wrong (error_back k)
passed_back (range start end) = Fine start end

passed-back : (a : Passed) → passed_back (says a) ≡ a
passed-back (Fine start end) = refl
passed-back (Wrong e) = ap Wrong (error-back e)

pub says-injective : (a b : Passed) → says a ≡ says b → a ≡ b
says-injective a b h = sym (passed-back a) ∙ ap passed_back h ∙ passed-back b
