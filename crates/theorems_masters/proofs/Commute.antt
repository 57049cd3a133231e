-- Two acts that are apart commute: a cell that the one writes is not the other's, and what the one reads the other leaves. Tables are
-- equal where all their cells are. Assumes nothing.
use mathlib.Core.Path.{◌≡◌, refl, sym, ap, ap₂, subst, ◌∙◌}
use mathlib.Core.Bool.{Bool, true, false, false≢true}
use mathlib.Core.List.{List}
use Prim.Native.Nat.{ℕ, zero, suc, ◌+◌, ◌*◌, ◌/◌, ◌%◌, ◌^◌, ◌<◌}
use native.Mathlib.Nat.{pow-suc}
use native.Mathlib.Omega.{arith}
use lib.ListN.{length, get_or}
use lib.Seq.{ext_get_or}
use lib.Pow.{shr-shr}
use Rattle.rules.specs.Choice.{both, either}
use Rattle.rules.proofs.Choose.{no-left, no-right}
use Rattle.table_registers.specs.Bits.{cell_at}
use Rattle.table_cells.specs.Cells.{Cells, reading, writing}
use Rattle.theorems_masters.specs.Masters.{Words, Apart}

-- ---- what is said of an act

-- two tables have the same in every cell of these
abbrev pub Agree : (ℕ → Bool) → List ℕ → List ℕ → Type 0
Agree R w w' = (d : ℕ) → R d ≡ true → cell_at w d ≡ cell_at w' d

-- a table of n words of 16 bits
abbrev pub Table : ℕ → List ℕ → Type 0
Table n w = (length w ≡ n) × Words w

-- what f does to such a table: it changes the cells that it writes only, and what it leaves there depends on its own cells only
pub record Acts (n : ℕ) (f : List ℕ → List ℕ) (cells : Cells) : Type 0 where
  pub keeps : (w : List ℕ) → Table n w → Table n (f w)
  pub frame : (w : List ℕ) (c : ℕ) → Table n w → cells writing c ≡ false → cell_at (f w) c ≡ cell_at w c
  pub local : (w w' : List ℕ) (c : ℕ) → Table n w → Table n w' → Agree (cells reading) w w' → Agree (cells writing) w w'
      → cells writing c ≡ true → cell_at (f w) c ≡ cell_at (f w') c

-- what is seen of such a table depends on the cells that are read only
abbrev pub Sees : {A : Type 0} → ℕ → (List ℕ → A) → Cells → Type 0
Sees n s cells = (w w' : List ℕ) → Table n w → Table n w' → Agree (cells reading) w w' → s w ≡ s w'

-- nothing is done
pub idle : (n : ℕ) (cells : Cells) → Acts n (λ w. w) cells
idle n cells = record { keeps = λ w t. t; frame = λ w c t e. refl; local = λ w w' c t t' r a e. a c e }

-- by a function that is equal on such tables, and equal cells
pub acts-as : {n : ℕ} {f g : List ℕ → List ℕ} {one other : Cells} → ((w : List ℕ) → Table n w → g w ≡ f w) → ((way c : ℕ) → one way c ≡ other way c) → Acts n f one → Acts n g other
acts-as {n} {f} {g} {one} {other} e x a = record {
  keeps = λ w t. subst (Table n) (sym (e w t)) (a.keeps w t);
  frame = λ w c t o. ap (λ (v : List ℕ). cell_at v c) (e w t) ∙ a.frame w c t (x writing c ∙ o);
  local = λ w w' c t t' r k o.
      ap (λ (v : List ℕ). cell_at v c) (e w t) ∙ a.local w w' c t t' (λ d q. r d (sym (x reading d) ∙ q)) (λ d q. k d (sym (x writing d) ∙ q)) (x writing c ∙ o)
      ∙ sym (ap (λ (v : List ℕ). cell_at v c) (e w' t'));
}

pub sees-as : {A : Type 0} {n : ℕ} {f g : List ℕ → A} {one other : Cells} → ((w : List ℕ) → Table n w → g w ≡ f w) → ((way c : ℕ) → one way c ≡ other way c) → Sees n f one → Sees n g other
sees-as e x s w w' t t' r = e w t ∙ s w w' t t' (λ d q. r d (sym (x reading d) ∙ q)) ∙ sym (e w' t')

-- ---- cells decide

one-add : (b : ℕ) → 1 + b ≡ suc b
one-add b = omega arith

-- two numbers below 2 ^ n that have the same n lowest digits
number-ext : (n x y : ℕ) → x < 2 ^ n → y < 2 ^ n → ((b : ℕ) → b < n → x / 2 ^ b % 2 ≡ y / 2 ^ b % 2) → x ≡ y
number-ext zero x y hx hy h = omega arith
number-ext (suc n) x y hx hy h =
    let px : x < 2 ^ n * 2 = rw pow-suc at hx in
    let py : y < 2 ^ n * 2 = rw pow-suc at hy in
    let up : (b : ℕ) → b < n → x / 2 / 2 ^ b % 2 ≡ y / 2 / 2 ^ b % 2 =
    λ b l. ap (λ (v : ℕ). v % 2) (shr-shr x 1 b ∙ ap (λ (k : ℕ). x / 2 ^ k) (one-add b)) ∙ h (suc b) (omega arith)
    ∙ sym (ap (λ (v : ℕ). v % 2) (shr-shr y 1 b ∙ ap (λ (k : ℕ). y / 2 ^ k) (one-add b))) in
    let half : x / 2 ≡ y / 2 = number-ext n (x / 2) (y / 2) (omega arith) (omega arith) up in
    let low : x / 1 % 2 ≡ y / 1 % 2 = h 0 (omega arith) in
    omega arith

pub word-ext : (w w' : List ℕ) (i : ℕ) → Words w → Words w' → ((b : ℕ) → b < 16 → cell_at w (16 * i + b) ≡ cell_at w' (16 * i + b)) → get_or w i 0 ≡ get_or w' i 0
word-ext w w' i hw hw' h = number-ext 16 (get_or w i 0) (get_or w' i 0) (hw i) (hw' i) (λ b s. at b s)
  where
    at : (b : ℕ) → b < 16 → get_or w i 0 / 2 ^ b % 2 ≡ get_or w' i 0 / 2 ^ b % 2
    at b s =
        let e : (16 * i + b) / 16 ≡ i = omega arith in
        let e' : (16 * i + b) % 16 ≡ b = omega arith in
        sym (ap₂ (λ (x y : ℕ). get_or w x 0 / 2 ^ y % 2) e e') ∙ h b s ∙ ap₂ (λ (x y : ℕ). get_or w' x 0 / 2 ^ y % 2) e e'

words-ext : (w w' : List ℕ) → length w ≡ length w' → Words w → Words w' → ((c : ℕ) → cell_at w c ≡ cell_at w' c) → w ≡ w'
words-ext w w' l hw hw' h = ext_get_or 0 w w' l (λ i _. word-ext w w' i hw hw' (λ b _. h (16 * i + b)))

-- ---- apart

-- where cells don't meet: what the one writes the other neither reads nor writes; what the other writes the one doesn't read
apart-both : (w r s x : Bool) → either (both w (either s x)) (both r x) ≡ false → w ≡ true → (s ≡ false) × (x ≡ false)
apart-both true r s x e h =
    let n = no-left (either s x) (both r x) e in
    (no-left s x n, no-right s x n)
apart-both false r s x e h = absurd (false≢true h)

apart_other : (w r s x : Bool) → either (both w (either s x)) (both r x) ≡ false → x ≡ true → (r ≡ false) × (w ≡ false)
apart_other true r true x e h = absurd (false≢true (sym e))
apart_other true r false true e h = absurd (false≢true (sym e))
apart_other true r false false e h = absurd (false≢true h)
apart_other false true s true e h = absurd (false≢true (sym e))
apart_other false true s false e h = absurd (false≢true h)
apart_other false false s x e h = (refl, refl)

module _ {n : ℕ} {f g : List ℕ → List ℕ} {one other : Cells} (af : Acts n f one) (ag : Acts n g other) (apart : Apart one other) where
  one_writes : (c : ℕ) → one writing c ≡ true → (other reading c ≡ false) × (other writing c ≡ false)
  one_writes c = apart-both (one writing c) (one reading c) (other reading c) (other writing c) (apart c)

  other-writes : (c : ℕ) → other writing c ≡ true → (one reading c ≡ false) × (one writing c ≡ false)
  other-writes c = apart_other (one writing c) (one reading c) (other reading c) (other writing c) (apart c)

  -- what f reads g leaves, and the other way round
  f-reads : (w : List ℕ) → Table n w → Agree (one reading) w (g w)
  f-reads w t d r = go (other writing d) refl
    where
      go : (b : Bool) → other writing d ≡ b → cell_at w d ≡ cell_at (g w) d
      go true v = absurd (false≢true (sym (other-writes d v).0 ∙ r))
      go false v = sym (ag.frame w d t v)

  g-reads : (w : List ℕ) → Table n w → Agree (other reading) w (f w)
  g-reads w t d r = go (one writing d) refl
    where
      go : (b : Bool) → one writing d ≡ b → cell_at w d ≡ cell_at (f w) d
      go true v = absurd (false≢true (sym (one_writes d v).0 ∙ r))
      go false v = sym (af.frame w d t v)

  -- what f writes g leaves, and the other way round
  f-keeps : (w : List ℕ) → Table n w → Agree (one writing) w (g w)
  f-keeps w t d r = sym (ag.frame w d t (one_writes d r).1)

  g-keeps : (w : List ℕ) → Table n w → Agree (other writing) w (f w)
  g-keeps w t d r = sym (af.frame w d t (other-writes d r).1)

  cell : (w : List ℕ) → Table n w → (c : ℕ) (x y : Bool) → one writing c ≡ x → other writing c ≡ y → cell_at (g (f w)) c ≡ cell_at (f (g w)) c
  cell w t c true y p q = ag.frame (f w) c (af.keeps w t) (one_writes c p).1 ∙ af.local w (g w) c t (ag.keeps w t) (f-reads w t) (f-keeps w t) p
  cell w t c false true p q =
      sym (ag.local w (f w) c t (af.keeps w t) (g-reads w t) (g-keeps w t) q) ∙ sym (af.frame (g w) c (ag.keeps w t) p)
  cell w t c false false p q = ag.frame (f w) c (af.keeps w t) q ∙ af.frame w c t p ∙ sym (ag.frame w c t q) ∙ sym (af.frame (g w) c (ag.keeps w t) p)

  -- both orders leave the same words
  pub commute : (w : List ℕ) → Table n w → g (f w) ≡ f (g w)
  commute w t =
      let x = ag.keeps (f w) (af.keeps w t) in
      let y = af.keeps (g w) (ag.keeps w t) in
      words-ext (g (f w)) (f (g w)) (x.0 ∙ sym y.0) x.1 y.1 (λ c. cell w t c (one writing c) (other writing c) refl refl)

  -- and each sees the same in both
  pub one-sees : {A : Type 0} (s : List ℕ → A) → Sees n s one → (w : List ℕ) → Table n w → s (g w) ≡ s w
  one-sees s see w t = sym (see w (g w) t (ag.keeps w t) (f-reads w t))

  pub other-sees : {A : Type 0} (s : List ℕ → A) → Sees n s other → (w : List ℕ) → Table n w → s (f w) ≡ s w
  other-sees s see w t = sym (see w (f w) t (af.keeps w t) (g-reads w t))
