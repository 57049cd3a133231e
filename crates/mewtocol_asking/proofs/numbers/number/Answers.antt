-- Each arm is one kind; past the last number comes 0. Assumes nothing.
use mathlib.Core.Path.{◌≡◌, refl, sym, ap, ◌∙◌}
use mathlib.Core.List.{[], ◌∷◌}
use Prim.Native.Nat.{ℕ, zero, suc, ◌<◌}
use native.Mathlib.Omega.{arith}
use lib.ListN.{get_or, get_or-eq_default}
use Rattle.rules.proofs.Choose.{via}
use Rattle.mewtocol_commands.specs.Commands.{Entry}
use Rattle.mewtocol_asking.specs.Asking.{spread}
use Rattle.mewtocol_asking.proofs.numbers.number.Goals as goal

-- two numbers, of three
two : (a b c j : ℕ) → j < 2 → get_or (a ∷ b ∷ c ∷ []) j 0 ≡ get_or (a ∷ b ∷ []) j 0
two a b c zero h = refl
two a b c (suc zero) h = refl
two a b c (suc (suc j)) h = absurd (omega arith)

pub returns-then-j-lt2 : goal.returns-then-j-lt2
unfolding spread
returns-then-j-lt2 c =
    let a = c.args in
    let k = via (ap (λ (e : Entry). e.kind) c.entry-e.ensures) c.in-WriteContacts.is in
    rw (k, c.if-many.false) (c.own.ensures ∙ two a.asking.now.first a.asking.now.second a.asking.now.third a.j c.if-j-lt2.true)

pub returns-else-j-lt2 : goal.returns-else-j-lt2
unfolding spread
returns-else-j-lt2 c =
    let a = c.args in
    let k = via (ap (λ (e : Entry). e.kind) c.entry-e.ensures) c.in-WriteContacts.is in
    rw (k, c.if-many.false) (sym (get_or-eq_default (a.asking.now.first ∷ a.asking.now.second ∷ []) 0 c.if-j-lt2.false))
