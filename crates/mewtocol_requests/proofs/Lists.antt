-- The lists of a text: what a row says that stands there several times. Assumes nothing.
use mathlib.Core.Path.{◌≡◌, refl, sym, ap, ap₂, ◌∙◌}
use mathlib.Core.List.{List, [], ◌∷◌, ◌++◌, map}
use Prim.Native.Nat.{ℕ, zero, suc, ◌+◌, ◌-◌, ◌*◌, ◌<◌}
use native.Mathlib.Nat.{zero-add}
use native.Mathlib.Omega.{arith}
use lib.ListN.{length, drop, get_or, set, length-drop}
use lib.Seq.{drop-drop}
use Rattle.text_rooms.specs.Room.{overwrite}
use Rattle.text_rooms.proofs.Overwrite.{overwrite-store}
use Rattle.mewtocol_commands.specs.Fields.{amount}
use Rattle.mewtocol_commands.specs.Rows.{contact, setting, times, repeated, numbers}
use Rattle.mewtocol_requests.specs.Requests.{Setting, contacts_in, values_in}
use Rattle.mewtocol_requests.specs.Requests.{settings}
use Rattle.mewtocol_commands.specs.Code.{number_in}
use Rattle.mewtocol_requests.specs.Code.{front, paired, words_in}
use Rattle.mewtocol_commands.specs.declared.Field.TheVariants.{Contact, Word}

-- ---- what is said several times

module _ {A : Type 0} where
  pub repeated-length : (k w : ℕ) (g : List ℕ → A) (t : List ℕ) → length (repeated k w g t) ≡ k
  unfolding repeated
  repeated-length zero w g t = refl
  repeated-length (suc k) w g t = ap suc (repeated-length k w g (drop w t))

  -- once more
  pub repeated-last : (k w : ℕ) (g : List ℕ → A) (t : List ℕ) → repeated (suc k) w g t ≡ repeated k w g t ++ (g (drop (w * k) t) ∷ [])
  unfolding repeated
  repeated-last zero w g t = let e : w * 0 ≡ 0 = omega arith in rw e
  repeated-last (suc k) w g t =
      let e : w + w * k ≡ w * suc k = omega arith in
      ap (λ (l : List A). g t ∷ l) (repeated-last k w g (drop w t))
      ∙ ap (λ (s : List ℕ). g t ∷ (repeated k w g (drop w t) ++ (g s ∷ []))) (drop-drop (w * k) w t ∙ ap (λ (n : ℕ). drop n t) e)

pub repeated-map : {A B : Type 0} (h : A → B) (k w : ℕ) (g : List ℕ → A) (t : List ℕ) → map h (repeated k w g t) ≡ repeated k w (λ s. h (g s)) t
unfolding repeated
repeated-map h zero w g t = refl
repeated-map h (suc k) w g t = ap (λ l. h (g t) ∷ l) (repeated-map h k w g (drop w t))

pub repeated-below : (m : ℕ) → 0 < m → (k w : ℕ) (g : List ℕ → ℕ) (t : List ℕ) → ((s : List ℕ) → g s < m) → (i : ℕ) → get_or (repeated k w g t) i 0 < m
unfolding repeated
repeated-below m p zero w g t h i = p
repeated-below m p (suc k) w g t h zero = h t
repeated-below m p (suc k) w g t h (suc i) = repeated-below m p k w g (drop w t) h i

-- one more stands in the places for them
pub repeated-store : (places xs : List ℕ) (k w at v : ℕ) (g : List ℕ → ℕ) (t : List ℕ) → k < length places → xs ≡ overwrite places 0 (repeated k w g t)
    → at ≡ w * k → v ≡ g (drop at t) → set xs k v ≡ overwrite places 0 (repeated (suc k) w g t)
repeated-store places xs k w at v g t h e a r =
    ap₂ (λ (l : List ℕ) (n : ℕ). set l n v) e (sym (zero-add k))
    ∙ overwrite-store places (repeated k w g t) 0 k v (repeated-length k w g t) (omega arith)
    ∙ ap (λ (x : ℕ). overwrite places 0 (repeated k w g t ++ (x ∷ []))) (r ∙ ap (λ (n : ℕ). g (drop n t)) a)
    ∙ ap (overwrite places 0) (sym (repeated-last k w g t))

-- a list that stands before others
pub front-append : (xs ys : List ℕ) → front (length xs) (xs ++ ys) ≡ xs
unfolding repeated
front-append [] ys = refl
front-append (x ∷ xs) ys = ap (λ (l : List ℕ). x ∷ l) (front-append xs ys)

-- ---- contacts and values

pub contacts-repeated : (k : ℕ) (t : List ℕ) → numbers (times k contact) t ≡ repeated k 5 (number_in 0 contact) t
unfolding times numbers repeated
contacts-repeated zero t = refl
contacts-repeated (suc k) t =
    ap (λ (l : List ℕ). amount Contact (drop 1 t) ∷ l) (contacts-repeated k (drop 4 (drop 1 t)) ∙ ap (repeated k 5 (number_in 0 contact)) (drop-drop 4 1 t))

abbrev setting_at : List ℕ → Setting
setting_at s = record { contact = number_in 0 setting s; value = number_in 1 setting s }

pub settings-repeated : (k : ℕ) (t : List ℕ) → settings (numbers (times k setting) t) ≡ repeated k 6 setting_at t
unfolding times numbers repeated settings
settings-repeated zero t = refl
settings-repeated (suc k) t =
    ap (λ (l : List Setting). setting_at t ∷ l)
    (settings-repeated k (drop 1 (drop 4 (drop 1 t))) ∙ ap (repeated k 6 setting_at) (ap (drop 1) (drop-drop 4 1 t) ∙ drop-drop 1 5 t))

pub set-contacts : (k : ℕ) (t : List ℕ) → contacts_in (settings (numbers (times k setting) t)) ≡ repeated k 6 (number_in 0 setting) t
set-contacts k t = ap contacts_in (settings-repeated k t) ∙ repeated-map (λ (s : Setting). s.contact) k 6 setting_at t

pub set_values : (k : ℕ) (t : List ℕ) → values_in (settings (numbers (times k setting) t)) ≡ repeated k 6 (number_in 1 setting) t
set_values k t = ap values_in (settings-repeated k t) ∙ repeated-map (λ (s : Setting). s.value) k 6 setting_at t

pub paired-length : (cs vs : List ℕ) → length (paired cs vs) ≡ length cs
unfolding paired
paired-length [] vs = refl
paired-length (c ∷ cs) vs = ap suc (paired-length cs (drop 1 vs))

paired-repeated : (k : ℕ) (t vs : List ℕ) → paired (repeated k 6 (number_in 0 setting) t) (repeated k 6 (number_in 1 setting) t ++ vs) ≡ repeated k 6 setting_at t
unfolding paired repeated
paired-repeated zero t vs = refl
paired-repeated (suc k) t vs = ap (λ (l : List Setting). setting_at t ∷ l) (paired-repeated k (drop 6 t) vs)

-- contacts and values that stand at the start of their places
pub settings-paired : (k : ℕ) (t values : List ℕ)
    → settings (numbers (times k setting) t) ≡ paired (repeated k 6 (number_in 0 setting) t) (overwrite values 0 (repeated k 6 (number_in 1 setting) t))
unfolding overwrite
settings-paired k t values = settings-repeated k t ∙ sym (paired-repeated k t _)

-- ---- words

pub words-repeated : (k : ℕ) (t : List ℕ) → numbers (times k (Word ∷ [])) t ≡ repeated k 4 (amount Word) t
unfolding times numbers repeated
words-repeated zero t = refl
words-repeated (suc k) t = ap (λ (l : List ℕ). amount Word t ∷ l) (words-repeated k (drop 4 t))

-- the data of a text whose front has m characters is the last of every text that ends with it
pub words_last : (n m k : ℕ) (t b : List ℕ) → drop k b ≡ t → length t ≡ m + 4 * n → words_in b n ≡ numbers (times n (Word ∷ [])) (drop m t)
unfolding words_in times numbers
words_last zero m k t b e h = refl
words_last (suc n) m k t b e h =
    let long : length b - k ≡ m + 4 * suc n = sym (length-drop k b) ∙ ap length e ∙ h in
    let at : length b - 4 * suc n ≡ k + m = omega arith in
    ap (λ (s : List ℕ). numbers (times (suc n) (Word ∷ [])) s) (ap (λ (j : ℕ). drop j b) at ∙ sym (drop-drop m k b) ∙ ap (drop m) e)
