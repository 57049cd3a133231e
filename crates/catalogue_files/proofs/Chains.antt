-- The runs of a chain do not meet, so that each address has the attribute of the one run that has it, in whatever order they are put.
-- Assumes nothing.
use mathlib.Core.Path.{◌≡◌, refl, ap, ap₂, sym, subst, ◌∙◌}
use mathlib.Core.Bool.{Bool, true, false, false≢true}
use mathlib.Core.List.{List, [], ◌∷◌, ◌++◌, map, append_assoc, append-nil}
use Prim.Native.Nat.{ℕ, ◌+◌}
use lib.Dec.{ltb, eqb}
use borrow.Author.Tests.{eq-eqb, eqb-true}
use Rattle.rules.specs.Choice.{pick, both, either, same_bytes, some}
use Rattle.rules.proofs.Choose.{both_left, both_right, pick_all, no-left, no-right}
use Rattle.catalogue_format.specs.declared.Run.{Run}
use Rattle.catalogue_format.specs.Format.{Items, none, run, group}
use Rattle.catalogue_files.specs.Refusals.{some_pair, Group, groups_of, own, meets, meets_inside, names_of, named, on_chain, chain}
use Rattle.catalogue_format.proofs.Bools.{by-test}
use Rattle.catalogue_files.proofs.Said.{map-append}

-- ---- membership

pub data In {ℓ} {A : Type ℓ} : A → List A → Type ℓ where
  here : (x : A) (xs : List A) → In x (x ∷ xs)
  there : (x y : A) (xs : List A) → In x xs → In x (y ∷ xs)

pub data Or {ℓ} (A B : Type ℓ) : Type ℓ where
  one : A → Or A B
  other : B → Or A B

or_case {ℓ} : {A B C : Type ℓ} → Or A B → (A → C) → (B → C) → C
or_case (one a) f g = f a
or_case (other b) f g = g b

module _ {A : Type 0} where
  pub none_in : (p : A → Bool) (x : A) (xs : List A) → some p xs ≡ false → In x xs → p x ≡ false
  unfolding some
  none_in p _ _ e (here x xs) = no-left (p x) (some p xs) e
  none_in p _ _ e (there x y xs i) = none_in p x xs (no-right (p y) (some p xs) e) i

  in-none : (p : A → Bool) (xs : List A) → ((x : A) → In x xs → p x ≡ false) → some p xs ≡ false
  unfolding some
  in-none p [] f = refl
  in-none p (x ∷ xs) f = ap₂ either (f x (here x xs)) (in-none p xs (λ y i. f y (there y x xs i)))

  in-append : (z : A) (xs ys : List A) → In z (xs ++ ys) → Or (In z xs) (In z ys)
  in-append z [] ys i = other i
  in-append z (x ∷ xs) ys (here _ _) = one (here z xs)
  in-append z (x ∷ xs) ys (there _ _ _ i) = more (in-append z xs ys i)
    where
      more : Or (In z xs) (In z ys) → Or (In z (x ∷ xs)) (In z ys)
      more (one i) = one (there z x xs i)
      more (other i) = other i

  in_left : (z : A) (xs ys : List A) → In z xs → In z (xs ++ ys)
  in_left _ _ ys (here x xs) = here x (xs ++ ys)
  in_left _ _ ys (there x y xs i) = there x y (xs ++ ys) (in_left x xs ys i)

  in_right : (z : A) (xs ys : List A) → In z ys → In z (xs ++ ys)
  in_right z [] ys i = i
  in_right z (x ∷ xs) ys i = there z x (xs ++ ys) (in_right z xs ys i)

  pairs-append : (p : A → A → Bool) (xs ys : List A) → some_pair p xs ≡ false → some_pair p ys ≡ false → ((x y : A) → In x xs → In y ys → p x y ≡ false) → some_pair p (xs ++ ys) ≡ false
  unfolding some_pair
  pairs-append p [] ys a b f = b
  pairs-append p (x ∷ xs) ys a b f =
      ap₂ either
      (in-none (p x) (xs ++ ys) (λ z i. at z (in-append z xs ys i)))
      (pairs-append p xs ys (no-right (some (p x) xs) (some_pair p xs) a) b (λ u v i j. f u v (there u x xs i) j))
    where
      at : (z : A) → Or (In z xs) (In z ys) → p x z ≡ false
      at z (one i) = none_in (p x) z xs (no-left (some (p x) xs) (some_pair p xs) a) i
      at z (other i) = f x z (here x xs) i

  pairs-left : (p : A → A → Bool) (xs ys : List A) → some_pair p (xs ++ ys) ≡ false → some_pair p xs ≡ false
  unfolding some_pair
  pairs-left p [] ys a = refl
  pairs-left p (x ∷ xs) ys a =
      ap₂ either (in-none (p x) xs (λ z i. none_in (p x) z (xs ++ ys) (no-left _ (some_pair p (xs ++ ys)) a) (in_left z xs ys i))) (pairs-left p xs ys (no-right (some (p x) (xs ++ ys)) _ a))

  pairs-right : (p : A → A → Bool) (xs ys : List A) → some_pair p (xs ++ ys) ≡ false → some_pair p ys ≡ false
  unfolding some_pair
  pairs-right p [] ys a = a
  pairs-right p (x ∷ xs) ys a = pairs-right p xs ys (no-right (some (p x) (xs ++ ys)) _ a)

  pairs-cross : (p : A → A → Bool) (xs ys : List A) → some_pair p (xs ++ ys) ≡ false → (x y : A) → In x xs → In y ys → p x y ≡ false
  unfolding some_pair
  pairs-cross p _ ys a _ y (here x xs) j = none_in (p x) y (xs ++ ys) (no-left _ (some_pair p (xs ++ ys)) a) (in_right y xs ys j)
  pairs-cross p _ ys a _ y (there x z xs i) j = pairs-cross p xs ys (no-right (some (p z) (xs ++ ys)) _ a) x y i j

  some_in : (p : A → Bool) (xs : List A) → some p xs ≡ true → (x : A) × (In x xs) × (p x ≡ true)
  unfolding some
  some_in p [] e = absurd (false≢true e)
  some_in p (x ∷ xs) e = by-test (p x) (λ t. (x, here x xs, t)) (λ t. let r = some_in p xs (ap (λ (b : Bool). either b (some p xs)) (sym t) ∙ e) in (r.0, there r.0 x xs r.1, r.2))

-- ---- names

same_refl : (a : List ℕ) → same_bytes a a ≡ true
unfolding same_bytes
same_refl [] = refl
same_refl (x ∷ xs) = ap₂ both (eq-eqb x x refl) (same_refl xs)

same-eq : (a b : List ℕ) → same_bytes a b ≡ true → a ≡ b
unfolding same_bytes
same-eq [] [] e = refl
same-eq [] (y ∷ ys) e = absurd (false≢true e)
same-eq (x ∷ xs) [] e = absurd (false≢true e)
same-eq (x ∷ xs) (y ∷ ys) e = ap₂ ◌∷◌ (eqb-true x y (both_left _ _ e)) (same-eq xs ys (both_right (eqb x y) _ e))

abbrev name_of : Group → List ℕ
name_of g = g.name

empty-in : {A : Type 0} (x : A) (P : Type 0) → In x [] → P
unfolding some
empty-in x P i = absurd (false≢true (sym (none_in (λ _. true) x [] refl i)))

in-cons : {A : Type 0} (x y : A) (xs : List A) → In x (y ∷ xs) → Or (x ≡ y) (In x xs)
in-cons x y xs (here _ _) = one refl
in-cons x y xs (there _ _ _ i) = other i

in_map : {A B : Type 0} (f : A → B) (x : A) (xs : List A) → In x xs → In (f x) (map f xs)
in_map f _ _ (here x xs) = here (f x) (map f xs)
in_map f _ _ (there x y xs i) = there (f x) (f y) (map f xs) (in_map f x xs i)

names-of-group : (n : List ℕ) (i t : Items) → names_of (group n i t) ≡ n ∷ (names_of i ++ names_of t)
unfolding groups_of
names-of-group n i t = ap (λ (l : List (List ℕ)). n ∷ l) (map-append name_of (groups_of i) (groups_of t))

inner-names : (t : Items) (g : Group) (x : List ℕ) → In g (groups_of t) → In x (names_of g.items) → In x (names_of t)
unfolding groups_of
inner-names none g x i j = empty-in g _ i
inner-names (run r t) g x i j = inner-names t g x i j
inner-names (group n a t) g x i j =
    subst (λ (l : List (List ℕ)). In x l) (sym (names-of-group n a t))
    (there x n (names_of a ++ names_of t)
    (or_case (in-cons g _ _ i)
    (λ e. in_left x (names_of a) (names_of t) (subst (λ (h : Group). In x (names_of h.items)) e j))
    (λ k. or_case (in-append g (groups_of a) (groups_of t) k)
    (λ l. in_left x (names_of a) (names_of t) (inner-names a g x l j))
    (λ l. in_right x (names_of a) (names_of t) (inner-names t g x l j)))))

-- a group on the chain: the asked name stands in the items it was taken from
on-named : (asked : List ℕ) (t : Items) (g : Group) → In g (groups_of t) → on_chain asked g ≡ true → In asked (names_of t)
unfolding on_chain named
on-named asked t g i e =
    by-test (same_bytes asked g.name)
    (λ h. subst (λ (x : List ℕ). In x (names_of t)) (sym (same-eq asked g.name h)) (in_map name_of g (groups_of t) i))
    (λ h.
    let r = some_in (same_bytes asked) (names_of g.items) (ap (λ (b : Bool). either b (some (same_bytes asked) (names_of g.items))) (sym h) ∙ e) in
    subst (λ (x : List ℕ). In x (names_of t)) (sym (same-eq asked r.0 r.2)) (inner-names t g r.0 i r.1))

pick-in : (b : Bool) (r : Run) (rs : List Run) → In r (pick b rs []) → (b ≡ true) × (In r rs)
pick-in true r rs i = (refl, i)
pick-in false r rs i = empty-in r _ i

pub record Link (asked : List ℕ) (gs : List Group) (r : Run) : Type 0 where
  pub of : Group
  pub among : In of gs
  pub on : on_chain asked of ≡ true
  pub has : In r (own of.items)

pub chain-in : (asked : List ℕ) (gs : List Group) (r : Run) → In r (chain asked gs) → Link asked gs r
unfolding chain
chain-in asked [] r i = empty-in r _ i
chain-in asked (g ∷ gs) r i =
    or_case (in-append r (pick (on_chain asked g) (own g.items) []) (chain asked gs) i)
    (λ j. let k = pick-in (on_chain asked g) r (own g.items) j in record { of = g; among = here g gs; on = k.0; has = k.1 })
    (λ j. let k = chain-in asked gs r j in record { of = k.of; among = there k.of g gs k.among; on = k.on; has = k.has })

chain-append : (asked : List ℕ) (gs hs : List Group) → chain asked (gs ++ hs) ≡ chain asked gs ++ chain asked hs
unfolding chain
chain-append asked [] hs = refl
chain-append asked (g ∷ gs) hs =
    ap (λ (l : List Run). pick (on_chain asked g) (own g.items) [] ++ l) (chain-append asked gs hs)
    ∙ sym (append_assoc (pick (on_chain asked g) (own g.items) []) (chain asked gs) (chain asked hs))

meets-sym : (r q : Run) → meets r q ≡ meets q r
unfolding meets
meets-sym r q = swap (ltb r.first (q.first + q.count)) (ltb q.first (r.first + r.count))
  where
    swap : (a b : Bool) → both a b ≡ both b a
    swap true true = refl
    swap true false = refl
    swap false true = refl
    swap false false = refl

-- ---- the runs of a chain do not meet

module _ (asked n : List ℕ) (i t : Items) (apart : some meets_inside (groups_of (group n i t)) ≡ false) (once : some_pair same_bytes (names_of (group n i t)) ≡ false) where
  alone : meets_inside (record { name = n; items = i }) ≡ false
  unfolding some groups_of
  alone = no-left _ (some meets_inside (groups_of i ++ groups_of t)) apart

  rest : some meets_inside (groups_of i ++ groups_of t) ≡ false
  unfolding some groups_of
  rest = no-right (meets_inside (record { name = n; items = i })) _ apart

  pub inner-apart : some meets_inside (groups_of i) ≡ false
  inner-apart = in-none meets_inside (groups_of i) (λ x k. none_in meets_inside x (groups_of i ++ groups_of t) rest (in_left x (groups_of i) (groups_of t) k))

  pub later-apart : some meets_inside (groups_of t) ≡ false
  later-apart = in-none meets_inside (groups_of t) (λ x k. none_in meets_inside x (groups_of i ++ groups_of t) rest (in_right x (groups_of i) (groups_of t) k))

  all-names : some_pair same_bytes ((n ∷ names_of i) ++ names_of t) ≡ false
  all-names = ap (some_pair same_bytes) (sym (names-of-group n i t)) ∙ once

  pub later-once : some_pair same_bytes (names_of t) ≡ false
  later-once = pairs-right same_bytes (n ∷ names_of i) (names_of t) all-names

  pub inner-once : some_pair same_bytes (names_of i) ≡ false
  unfolding some_pair
  inner-once = no-right (some (same_bytes n) (names_of i)) _ (pairs-left same_bytes (n ∷ names_of i) (names_of t) all-names)

  -- the asked name is not both in the group and after it
  not-both : In asked (n ∷ names_of i) → In asked (names_of t) → ⊥
  not-both a b = false≢true (sym (pairs-cross same_bytes (n ∷ names_of i) (names_of t) all-names asked asked a b) ∙ same_refl asked)

  own-apart : some_pair meets (own i) ≡ false
  unfolding meets_inside
  own-apart = no-left (some_pair meets (own i)) _ alone

  own-inner : (r q : Run) (h : Group) → In r (own i) → In h (groups_of i) → In q (own h.items) → meets r q ≡ false
  unfolding meets_inside
  own-inner r q h a b c =
      let e = none_in (λ (x : Group). some (λ (y : Run). some (meets y) (own i)) (own x.items)) h (groups_of i) (no-right (some_pair meets (own i)) _ alone) b in
      let f = none_in (λ (y : Run). some (meets y) (own i)) q (own h.items) e c in
      meets-sym r q ∙ none_in (meets q) r (own i) f a

  own-named : on_chain asked (record { name = n; items = i }) ≡ true → In asked (n ∷ names_of i)
  unfolding groups_of
  own-named e = subst (λ (l : List (List ℕ)). In asked l) (names-of-group n i none ∙ ap (λ (l : List (List ℕ)). n ∷ l) (append-nil (names_of i))) (on-named asked (group n i none) (record { name = n; items = i }) (here _ _) e)

  first-apart : (r q : Run) → In r (pick (on_chain asked (record { name = n; items = i })) (own i) []) → Or (In q (chain asked (groups_of i))) (In q (chain asked (groups_of t))) → meets r q ≡ false
  first-apart r q a (one b) =
      let k = pick-in (on_chain asked (record { name = n; items = i })) r (own i) a in
      let l = chain-in asked (groups_of i) q b in
      own-inner r q l.of k.1 l.among l.has
  first-apart r q a (other b) =
      let k = pick-in (on_chain asked (record { name = n; items = i })) r (own i) a in
      let l = chain-in asked (groups_of t) q b in
      absurd (not-both (own-named k.0) (on-named asked t l.of l.among l.on))

  second-apart : (r q : Run) → In r (chain asked (groups_of i)) → In q (chain asked (groups_of t)) → meets r q ≡ false
  second-apart r q a b =
      let k = chain-in asked (groups_of i) r a in
      let l = chain-in asked (groups_of t) q b in
      absurd (not-both (there asked n (names_of i) (on-named asked i k.of k.among k.on)) (on-named asked t l.of l.among l.on))

  pub chain-step : some_pair meets (chain asked (groups_of i)) ≡ false → some_pair meets (chain asked (groups_of t)) ≡ false → some_pair meets (chain asked (groups_of (group n i t))) ≡ false
  unfolding groups_of chain some_pair
  chain-step a b =
      let p : List Run = pick (on_chain asked (record { name = n; items = i })) (own i) [] in
      ap (λ (l : List Run). some_pair meets (p ++ l)) (chain-append asked (groups_of i) (groups_of t))
      ∙ pairs-append meets p (chain asked (groups_of i) ++ chain asked (groups_of t))
      (pick_all (λ (l : List Run). some_pair meets l ≡ false) (on_chain asked (record { name = n; items = i })) (own i) [] (λ _. own-apart) (λ _. refl))
      (pairs-append meets (chain asked (groups_of i)) (chain asked (groups_of t)) a b second-apart)
      (λ r q u v. first-apart r q u (in-append q (chain asked (groups_of i)) (chain asked (groups_of t)) v))

pub chain-apart : (asked : List ℕ) (t : Items) → some meets_inside (groups_of t) ≡ false → some_pair same_bytes (names_of t) ≡ false → some_pair meets (chain asked (groups_of t)) ≡ false
unfolding groups_of chain some_pair
chain-apart asked none a b = refl
chain-apart asked (run r t) a b = chain-apart asked t a b
chain-apart asked (group n i t) a b =
    chain-step asked n i t a b
    (chain-apart asked i (inner-apart asked n i t a b) (inner-once asked n i t a b))
    (chain-apart asked t (later-apart asked n i t a b) (later-once asked n i t a b))
