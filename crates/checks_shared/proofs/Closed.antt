-- Laws of a frame that ends in the two elements of its check, for every such check alike: taken apart, put together, read cell by cell,
-- and with one element changed. Assumes nothing.
use mathlib.Core.Bool.{Bool, true, false, false≢true}
use mathlib.Core.List.{List, [], ◌∷◌, ◌++◌, append_assoc}
use mathlib.Core.Logic.{◌⊎◌, inl, inr}
use mathlib.Core.Path.{◌≡◌, refl, sym, ap, ap₂, ◌∙◌, subst}
use Prim.Native.Nat.{ℕ, suc, ◌+◌, ◌-◌, ◌≤◌, ◌<◌}
use native.Mathlib.Omega.{arith}
use borrow.Author.Tests.{eqb-true, eq-eqb, ne_eqb, le-leb, lt-leb}
use lib.Dec.{eqb, leb}
use lib.ListN.{length, take, drop, get_or, length-append, length-drop, take-append-drop, drop_of_length-le}
use lib.Seq.{drop-cons, take_at, drop_at, take-append-le, get_or-append_seam}
use Rattle.rules.specs.Choice.{both}
use Rattle.rules.proofs.Choose.{both_left, both_right}
use Rattle.checks_shared.specs.Line.{Bytes}
use Rattle.checks_shared.specs.Right.{same, closed_by}
use Rattle.checks_shared.proofs.Bits.{le-or-lt, bytes-front}

both_true : (b : Bool) → both b true ≡ b
both_true true = refl
both_true false = refl

pub not-true-false : (b : Bool) → (b ≡ true → ⊥) → b ≡ false
not-true-false true h = absurd (h refl)
not-true-false false h = refl

-- ---- the same elements

pub same_refl : (x : List ℕ) → same x x ≡ true
unfolding same
same_refl [] = refl
same_refl (a ∷ x) = ap₂ both (eq-eqb a a refl) (same_refl x)

pub same_true : (x y : List ℕ) → same x y ≡ true → x ≡ y
unfolding same
same_true [] [] e = refl
same_true [] (b ∷ y) e = absurd (false≢true e)
same_true (a ∷ x) [] e = absurd (false≢true e)
same_true (a ∷ x) (b ∷ y) e = ap₂ ◌∷◌ (eqb-true a b (both_left _ _ e)) (same_true x y (both_right (eqb a b) _ e))

-- ---- taken apart and put together

module _ (check : List ℕ → List ℕ) where
  -- a front and two elements
  closed_parts : (m c : List ℕ) → length c ≡ 2 → closed_by check (m ++ c) ≡ same c (check m)
  unfolding closed_by
  closed_parts m c l =
      let n : length m ≡ length (m ++ c) - 2 = omega (arith, length-append m c) in
      ap₂ both (le-leb 2 (length (m ++ c)) (omega (arith, length-append m c)))
      (ap₂ (λ (u v : List ℕ). same u (check v)) (drop_at m c (length (m ++ c) - 2) n) (take_at m c (length (m ++ c) - 2) n))

  pub closed-join : (m : List ℕ) → length (check m) ≡ 2 → closed_by check (m ++ check m) ≡ true
  closed-join m l = closed_parts m (check m) l ∙ same_refl (check m)

  -- the front is all but the last two
  closed-whole : (f : List ℕ) → closed_by check f ≡ true → f ≡ take (length f - 2) f ++ check (take (length f - 2) f)
  unfolding closed_by
  closed-whole f e =
      let m = take (length f - 2) f in
      sym (take-append-drop (length f - 2) f) ∙ ap (λ (t : List ℕ). m ++ t) (same_true _ _ (both_right (leb 2 (length f)) _ e))

  pub closed-split : (f : List ℕ) → closed_by check f ≡ true → (m : List ℕ) × (f ≡ m ++ check m)
  closed-split f e = (take (length f - 2) f, closed-whole f e)

-- ---- cell by cell

pub closed-short : (check : List ℕ → List ℕ) (f : List ℕ) → length f < 2 → closed_by check f ≡ false
unfolding closed_by
closed-short check f h = ap (λ (t : Bool). both t (same (drop (length f - 2) f) (check (take (length f - 2) f)))) (lt-leb 2 (length f) h)

last-two : (f : List ℕ) → 2 ≤ length f → drop (length f - 2) f ≡ get_or f (length f - 2) 0 ∷ get_or f (length f - 1) 0 ∷ []
last-two f l =
    let next : suc (length f - 2) ≡ length f - 1 = omega arith in
    let end : length f ≤ suc (length f - 1) = omega arith in
    let last = drop-cons f (length f - 1) 0 (omega arith) ∙ ap (◌∷◌ (get_or f (length f - 1) 0)) (drop_of_length-le f end) in
    drop-cons f (length f - 2) 0 (omega arith) ∙ ap (◌∷◌ (get_or f (length f - 2) 0)) (ap (λ (k : ℕ). drop k f) next ∙ last)

-- with a the last but one of f, and x and y the check
module _ (check : List ℕ → List ℕ) (f : List ℕ) (a x y : ℕ) (l : 2 ≤ length f) (at : a ≡ get_or f (length f - 2) 0)
    (e : check (take (length f - 2) f) ≡ x ∷ y ∷ []) where
  cells : closed_by check f ≡ both (eqb a x) (eqb (get_or f (length f - 1) 0) y)
  unfolding closed_by same
  cells =
      ap₂ both (le-leb 2 (length f) l) (ap₂ same (last-two f l) e)
      ∙ ap₂ (λ (u : ℕ) (t : Bool). both (eqb u x) t) (sym at) (both_true (eqb (get_or f (length f - 1) 0) y))

  pub closed-no : (a ≡ x → ⊥) → closed_by check f ≡ false
  closed-no h = cells ∙ ap (λ (t : Bool). both t (eqb (get_or f (length f - 1) 0) y)) (ne_eqb a x h)

  pub closed-yes : (b : ℕ) → a ≡ x → b ≡ get_or f (length f - 1) 0 → closed_by check f ≡ eqb b y
  closed-yes b h k = cells ∙ ap₂ (λ (t : Bool) (u : ℕ). both t (eqb u y)) (eq-eqb a x h) (sym k)

-- ---- one element changed

module _ (check : List ℕ → List ℕ) (b a : List ℕ) where
  -- all but the last two, where the change is in these
  abbrev early : List ℕ
  early = take (length b + suc (length a) - 2) b

  -- the change is in the check: what is before it is one
  late-whole : (z : ℕ) → length a < 2 → closed_by check (b ++ (z ∷ a)) ≡ true → b ++ (z ∷ a) ≡ early ++ check early
  late-whole z h e =
      let f = b ++ (z ∷ a) in
      let front : take (length f - 2) f ≡ early =
      ap (λ (n : ℕ). take (n - 2) f) (length-append b (z ∷ a)) ∙ take-append-le (length b + suc (length a) - 2) b (z ∷ a) (omega arith) in
      closed-whole check f e ∙ ap (λ (m : List ℕ). m ++ check m) front

  abbrev rest : List ℕ
  rest = take (length a - 2) a

  abbrev last : List ℕ
  last = drop (length a - 2) a

  parts : (z : ℕ) → b ++ (z ∷ a) ≡ (b ++ (z ∷ rest)) ++ last
  parts z = ap (λ (t : List ℕ). b ++ (z ∷ t)) (sym (take-append-drop (length a - 2) a)) ∙ sym (append_assoc b (z ∷ rest) last)

  -- the change is before the check: the check is one
  early-check : (z : ℕ) → 2 ≤ length a → closed_by check (b ++ (z ∷ a)) ≡ true → last ≡ check (b ++ (z ∷ rest))
  early-check z h e =
      same_true last (check (b ++ (z ∷ rest)))
      (sym (closed_parts check (b ++ (z ∷ rest)) last (omega (arith, length-drop (length a - 2) a))) ∙ sym (ap (closed_by check) (parts z)) ∙ e)

-- a check of bytes that shows every change of one byte
abbrev pub Sees : (List ℕ → List ℕ) → Type 0
Sees check = (b r : List ℕ) (x y : ℕ) → Bytes (b ++ (x ∷ r)) → Bytes (b ++ (y ∷ r)) → check (b ++ (x ∷ r)) ≡ check (b ++ (y ∷ r)) → x ≡ y

-- a test that two lists with one byte's difference never both pass
abbrev pub ShowsOne : (List ℕ → Bool) → Type 0
ShowsOne right =
    (b a : List ℕ) (x y : ℕ) → Bytes (b ++ (x ∷ a)) → Bytes (b ++ (y ∷ a)) → right (b ++ (x ∷ a)) ≡ true → right (b ++ (y ∷ a)) ≡ true → x ≡ y

pub closed-one : (check : List ℕ → List ℕ) → Sees check → ShowsOne (closed_by check)
closed-one check sees b a x y bx by ex ey = go (le-or-lt 2 (length a))
  where
    bytes : (z : ℕ) → Bytes (b ++ (z ∷ a)) → Bytes (b ++ (z ∷ rest check b a))
    bytes z h = bytes-front (b ++ (z ∷ rest check b a)) (last check b a) (subst Bytes (parts check b a z) h)

    go : (2 ≤ length a) ⊎ (length a < 2) → x ≡ y
    go (inl h) = sees b (rest check b a) x y (bytes x bx) (bytes y by) (sym (early-check check b a x h ex) ∙ early-check check b a y h ey)
    go (inr h) =
        sym (get_or-append_seam b x a 0)
        ∙ ap (λ (t : List ℕ). get_or t (length b) 0) (late-whole check b a x h ex ∙ sym (late-whole check b a y h ey))
        ∙ get_or-append_seam b y a 0
