-- The tests of an asking are one: 14 unless it can be a request. Assumes nothing.
use mathlib.Core.Path.{◌≡◌, refl}
use mathlib.Core.List.{[], ◌∷◌}
use mathlib.Core.Bool.{Bool, true, false}
use Prim.Native.Nat.{ℕ}
use Rattle.rules.specs.Choice.{pick, both}
use Rattle.rules.specs.Tests.{◌unless◌, first}
use Rattle.mewtocol_frame.specs.declared.Limits.{Limits}
use Rattle.mewtocol_commands.specs.Commands.{entry, layout, fields_of, good_range}
use Rattle.mewtocol_asking.specs.Asking.{Asking, ◌for◌, numbers_of, listed_by, fit, right_count, start_of, end_of, ask_tests, can_ask}

pub tests-are : {A : Type 0} (l : Limits) (a : Asking) (r : ℕ → A) (o : A) → first r (ask_tests l a) o ≡ pick (can_ask l a) o (r 14)
unfolding can_ask
tests-are l (c for q) r o =
    three (right_count (layout (entry c).kind) (listed_by q) (start_of q) (end_of q)) (fit (fields_of (layout (entry c).kind) (listed_by q)) (numbers_of q)) (good_range l (entry c).kind (start_of q) (end_of q))
  where
    three : (a b c : Bool) → first r ((14 unless a) ∷ (14 unless b) ∷ (14 unless c) ∷ []) o ≡ pick (both a (both b c)) o (r 14)
    three true true true = refl
    three true true false = refl
    three true false c = refl
    three false b c = refl
