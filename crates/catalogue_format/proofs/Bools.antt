-- An answer that a test on the way settles, or leaves to what comes after it. Assumes nothing.
use mathlib.Core.Path.{◌≡◌, refl, sym, ap, ◌∙◌}
use mathlib.Core.Bool.{Bool, true, false}
use Rattle.rules.specs.Choice.{pick, both, either}
use Rattle.rules.proofs.Choose.{both_false}

pub by-test {ℓ} : {P : Type ℓ} (t : Bool) → (t ≡ true → P) → (t ≡ false → P) → P
by-test true f g = f refl
by-test false f g = g refl

pub no_both : (t x : Bool) → t ≡ false → false ≡ both t x
no_both t x e = ap (λ (u : Bool). both u x) (sym e)

pub so-both : (t x r : Bool) → t ≡ true → r ≡ x → r ≡ both t x
so-both t x r e p = p ∙ ap (λ (u : Bool). both u x) (sym e)

pub so-either : (t x : Bool) → t ≡ true → true ≡ either t x
so-either t x e = ap (λ (u : Bool). either u x) (sym e)

pub or_else : (t x r : Bool) → t ≡ false → r ≡ x → r ≡ either t x
or_else t x r e p = p ∙ ap (λ (u : Bool). either u x) (sym e)

pub so-pick {ℓ} : {A : Type ℓ} (t : Bool) (x y r : A) → t ≡ true → r ≡ x → r ≡ pick t x y
so-pick t x y r e p = p ∙ ap (λ (u : Bool). pick u x y) (sym e)

pub not-pick {ℓ} : {A : Type ℓ} (t : Bool) (x y r : A) → t ≡ false → r ≡ y → r ≡ pick t x y
not-pick t x y r e p = p ∙ ap (λ (u : Bool). pick u x y) (sym e)

pub both-swap : (a b c : Bool) → both a (both b c) ≡ both b (both a c)
both-swap true b c = refl
both-swap false b c = sym (both_false b)
