-- Letters at the start of a text, one by one. Assumes nothing.
use mathlib.Core.Path.{◌≡◌, refl, sym, ap, ◌∙◌}
use mathlib.Core.List.{List, [], ◌∷◌}
use mathlib.Core.Bool.{Bool, true, false}
use Prim.Native.Nat.{ℕ}
use mathlib.Core.Logic.{◌≢◌}
use lib.Dec.{eqb}
use borrow.Author.Tests.{eq-eqb, ne_eqb}
use lib.ListN.{drop, get_or}
use lib.Seq.{drop-drop, get_or-drop}
use Rattle.rules.specs.Choice.{pick, both}
use Rattle.mewtocol_frame.specs.Text.{starts}

pub both-last : (b : Bool) → both b true ≡ b
both-last true = refl
both-last false = refl

both-assoc : (a b c : Bool) → both a (both b c) ≡ both (both a b) c
both-assoc true b c = refl
both-assoc false b c = refl

pub starts-2-is : (a b : ℕ) (s : List ℕ) → starts (a ∷ b ∷ []) s ≡ both (eqb (get_or s 0 0) a) (eqb (get_or s 1 0) b)
unfolding starts
starts-2-is a b s = ap (both (eqb (get_or s 0 0) a)) (both-last (eqb (get_or (drop 1 s) 0 0) b) ∙ ap (λ (x : ℕ). eqb x b) (get_or-drop 1 s 0 0))

-- the first letter stands there, so the second decides
pub second_decides : (a b : ℕ) (s : List ℕ) (x y : ℕ) → x ≡ get_or s 0 0 → x ≡ a → y ≡ get_or s 1 0 → eqb y b ≡ starts (a ∷ b ∷ []) s
second_decides a b s x y is same then =
    let first : eqb (get_or s 0 0) a ≡ true = eq-eqb _ _ (sym is ∙ same) in
    ap (λ (z : ℕ). eqb z b) then ∙ sym (starts-2-is a b s ∙ rw first)

-- another stands there
pub first_decides : (a b : ℕ) (s : List ℕ) (x : ℕ) → x ≡ get_or s 0 0 → x ≢ a → eqb x a ≡ starts (a ∷ b ∷ []) s
first_decides a b s x is other =
    let first : eqb (get_or s 0 0) a ≡ false = ne_eqb _ _ (λ e. other (is ∙ e)) in
    ne_eqb _ _ other ∙ sym (starts-2-is a b s ∙ rw first)

starts-3-is : (a b c : ℕ) (s : List ℕ) → starts (a ∷ b ∷ c ∷ []) s ≡ both (starts (a ∷ b ∷ []) s) (eqb (get_or s 2 0) c)
unfolding starts
starts-3-is a b c s =
    ap (λ (x : Bool). both (eqb (get_or s 0 0) a) (both (eqb (get_or (drop 1 s) 0 0) b) x)) (both-last _ ∙ ap (λ (l : List ℕ). eqb (get_or l 0 0) c) (drop-drop 1 1 s) ∙ ap (λ (x : ℕ). eqb x c) (get_or-drop 2 s 0 0))
    ∙ both-assoc (eqb (get_or s 0 0) a) (eqb (get_or (drop 1 s) 0 0) b) (eqb (get_or s 2 0) c)
    ∙ ap (λ (x : Bool). both (both (eqb (get_or s 0 0) a) x) (eqb (get_or s 2 0) c)) (sym (both-last (eqb (get_or (drop 1 s) 0 0) b)))

-- a name of two letters, or of a third that is not 0
pub starts-name : (a b c : ℕ) (s : List ℕ) → starts (a ∷ b ∷ pick (eqb c 0) [] (c ∷ [])) s ≡ both (starts (a ∷ b ∷ []) s) (pick (eqb c 0) true (eqb (get_or s 2 0) c))
starts-name a b c s = by-third (eqb c 0)
  where
    by-third : (two : Bool) → starts (a ∷ b ∷ pick two [] (c ∷ [])) s ≡ both (starts (a ∷ b ∷ []) s) (pick two true (eqb (get_or s 2 0) c))
    by-third true = sym (both-last (starts (a ∷ b ∷ []) s))
    by-third false = starts-3-is a b c s
