-- What does not end with CR has not the shape. Assumes nothing.
use mathlib.Core.Path.{◌≡◌, refl, ap, ◌∙◌}
use mathlib.Core.Bool.{Bool, true, false}
use mathlib.Core.List.{List}
use mathlib.Core.Logic.{◌≢◌}
use Prim.Native.Nat.{ℕ, ◌-◌}
use lib.Dec.{eqb}
use lib.ListN.{length, take, drop, get_or}
use borrow.Author.Tests.{ne_eqb}
use Rattle.rules.specs.Choice.{both, between, all_between}
use Rattle.mewtocol_frame.specs.declared.Limits.{Limits}
use Rattle.mewtocol_frame.specs.Frame.{good_shape}

third_false : (a b d : Bool) → both a (both b (both false d)) ≡ false
third_false true true d = refl
third_false true false d = refl
third_false false b d = refl

pub no_cr : (l : Limits) (least : ℕ) (f : List ℕ) (k x : ℕ) → k ≡ length f - 1 → x ≡ get_or f k 0 → x ≢ 13 → good_shape l least f ≡ false
unfolding good_shape
no_cr l least f k x at is other =
    let last : x ≡ get_or f (length f - 1) 0 = is ∙ ap (λ (n : ℕ). get_or f n 0) at in
    rw (ne_eqb _ _ (λ e. other (last ∙ e))) (third_false (between least l.longest (length f)) (eqb (get_or f 0 0) l.header) (all_between 0x20 0x7E (take (length f - 2) (drop 1 f))))
