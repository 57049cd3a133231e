-- A number that is none of the eight, or none of the two forms, asks for no range. Assumes nothing.
use mathlib.Core.Bool.{false}
use mathlib.Core.List.{List}
use mathlib.Core.Logic.{◌⊎◌, inl, inr}
use mathlib.Core.Path.{◌≡◌, refl, ap, ◌∙◌}
use Prim.Native.Nat.{ℕ, ◌≤◌}
use native.Mathlib.Omega.{arith}
use borrow.Author.Tests.{ne_eqb, lt-leb}
use Rattle.mewtocol_frame.specs.declared.Limits.{Limits}
use Rattle.mewtocol_asking.specs.Asking.{asking, fit, can_ask}
use Rattle.mewtocol_asking.specs.declared.Ask.{Ask}
use Rattle.mewtocol_asking.specs.declared.Ask.TheVariants.{ReadWords}
use Rattle.jeulgopae_codes.specs.Asks.{command_in, ask_of, OthersAskNothing, OtherFormsAskNothing, profile_of, OtherProfilesAreNone}

no-range : (l : Limits) (cs vs ws : List ℕ) → can_ask l (asking (ReadWords 1 0) cs vs ws) ≡ false
unfolding can_ask fit
no-range l cs vs ws = refl

none-of-them : (command first second value : ℕ) → (command ≡ 0) ⊎ (9 ≤ command) → ask_of command first second value ≡ ReadWords 1 0
unfolding ask_of
none-of-them command first second value (inl e) = ap (λ (k : ℕ). ask_of k first second value) e
none-of-them command first second value (inr h) =
    rw (ne_eqb command 1 (λ e. omega arith), ne_eqb command 2 (λ e. omega arith), ne_eqb command 3 (λ e. omega arith), ne_eqb command 4 (λ e. omega arith), ne_eqb command 5 (λ e. omega arith), ne_eqb command 6 (λ e. omega arith), ne_eqb command 7 (λ e. omega arith), ne_eqb command 8 (λ e. omega arith))

pub others-ask-nothing : OthersAskNothing
others-ask-nothing l command first second value cs vs ws h =
    ap (λ (a : Ask). can_ask l (asking a cs vs ws)) (none-of-them command first second value h) ∙ no-range l cs vs ws

no-form : (form command : ℕ) → 2 ≤ form → command_in form command ≡ 0
unfolding command_in
no-form form command h = rw (lt-leb form 1 (omega (arith, h)))

pub other-forms-ask-nothing : OtherFormsAskNothing
other-forms-ask-nothing l form command first second value cs vs ws h = others-ask-nothing l (command_in form command) first second value cs vs ws (inl (no-form form command h))

pub other-profiles-are-none : OtherProfilesAreNone
unfolding profile_of
other-profiles-are-none n h = rw (ne_eqb n 0 (λ e. omega arith), ne_eqb n 1 (λ e. omega arith))
