-- Whom a frame is for, by what stands at the station's two characters. Assumes nothing.
use mathlib.Core.Bool.{Bool, true, false}
use mathlib.Core.List.{List}
use mathlib.Core.Logic.{◌≢◌}
use mathlib.Core.Path.{◌≡◌, ap, ◌∙◌, sym}
use Prim.Native.Nat.{ℕ}
use borrow.Author.Tests.{eq-eqb, ne_eqb}
use lib.Dec.{eqb}
use lib.ListN.{get_or}
use Rattle.rules.specs.Choice.{both}
use Rattle.rules.specs.Characters.{letter_f}
use Rattle.rules.proofs.Choose.{pick_yes, pick_no}
use Rattle.station.specs.declared.Whom.TheVariants.{This, All, Other}
use Rattle.mewtocol_frame.specs.Frame.{for_station}
use Rattle.mewtocol_station.specs.Station.{whom_in}

pub own_is_this : (own : ℕ) (f : List ℕ) → for_station own f ≡ true → whom_in own f ≡ This
unfolding whom_in
own_is_this own f h = pick_yes (for_station own f) _ _ h

pub first_tells : (own : ℕ) (f : List ℕ) (x : ℕ) → for_station own f ≡ false → x ≡ get_or f 1 0 → x ≢ letter_f → whom_in own f ≡ Other
unfolding whom_in
first_tells own f x h is other =
    let third : Bool = eqb (get_or f 2 0) letter_f in
    pick_no (for_station own f) _ _ h ∙ pick_no _ _ _ (ap (λ (b : Bool). both b third) (ne_eqb (get_or f 1 0) letter_f (λ e. other (is ∙ e))))

pub second_tells : (own : ℕ) (f : List ℕ) (x y : ℕ) → for_station own f ≡ false → x ≡ get_or f 1 0 → x ≡ letter_f → y ≡ get_or f 2 0 → y ≢ letter_f → whom_in own f ≡ Other
unfolding whom_in
second_tells own f x y h is first at other =
    let third : Bool = eqb (get_or f 2 0) letter_f in
    pick_no (for_station own f) _ _ h
    ∙ pick_no _ _ _ (ap (λ (b : Bool). both b third) (eq-eqb (get_or f 1 0) letter_f (sym is ∙ first)) ∙ ne_eqb (get_or f 2 0) letter_f (λ e. other (at ∙ e)))

pub both_tell : (own : ℕ) (f : List ℕ) (x y : ℕ) → for_station own f ≡ false → x ≡ get_or f 1 0 → x ≡ letter_f → y ≡ get_or f 2 0 → y ≡ letter_f → whom_in own f ≡ All
unfolding whom_in
both_tell own f x y h is first at second =
    let third : Bool = eqb (get_or f 2 0) letter_f in
    pick_no (for_station own f) _ _ h
    ∙ pick_yes _ _ _ (ap (λ (b : Bool). both b third) (eq-eqb (get_or f 1 0) letter_f (sym is ∙ first)) ∙ eq-eqb (get_or f 2 0) letter_f (sym at ∙ second))
