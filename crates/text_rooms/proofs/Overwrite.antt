-- Laws of writing into a room: several writes, one after the other, are one. Assumes nothing.
use mathlib.Core.Path.{◌≡◌, sym, ap, ap₂, ◌∙◌}
use mathlib.Core.List.{List, [], ◌∷◌, ◌++◌, append_assoc}
use Prim.Native.Nat.{ℕ, suc, ◌+◌, ◌-◌, ◌≤◌, ◌<◌, zero-le}
use native.Mathlib.Nat.{add_assoc, zero-add}
use native.Mathlib.Omega.{arith}
use lib.ListN.{length, take, drop, get_or, set, get_or-append, length-append, length-take, length-drop, length-set}
use lib.Seq.{get_or-append-add, get_or-take, get_or-drop, drop-drop, drop-cons, take-append_seam, drop-append-add, sets, sets-eq, paste-zero, length-take-le, get_or-set_same, drop-set-lt, take-set-le}
use Rattle.text_rooms.specs.Room.{overwrite}

head-length : (xs ys : List ℕ) (at : ℕ) → at ≤ length xs → length (take at xs ++ ys) ≡ at + length ys
head-length xs ys at h = length-append (take at xs) ys ∙ ap (λ (k : ℕ). k + length ys) (length-take-le at xs h)

pub overwrite-none : (xs : List ℕ) (at : ℕ) → overwrite xs at [] ≡ xs
unfolding overwrite
overwrite-none xs at = sym (paste-zero xs at [])

-- a write right after a write is one write
pub overwrite-join : (xs ys zs : List ℕ) (at n : ℕ) → at ≤ length xs → n ≡ at + length ys → overwrite (overwrite xs at ys) n zs ≡ overwrite xs at (ys ++ zs)
unfolding overwrite
overwrite-join xs ys zs at n h e =
    let p : n ≡ length (take at xs ++ ys) = e ∙ sym (head-length xs ys at h) in
    ap (λ (k : ℕ). take k (take at xs ++ ys ++ drop (at + length ys) xs) ++ zs ++ drop (k + length zs) (take at xs ++ ys ++ drop (at + length ys) xs)) p
    ∙ ap₂ (λ (a b : List ℕ). a ++ zs ++ b) (take-append_seam (take at xs ++ ys) _) (drop-append-add (take at xs ++ ys) _ (length zs) ∙ drop-drop (length zs) (at + length ys) xs)
    ∙ simp (append_assoc, length-append, add_assoc)

-- a run of stores is one write
pub overwrite-run : (xs vs : List ℕ) (at : ℕ) → at + length vs ≤ length xs → sets xs at vs ≡ overwrite xs at vs
unfolding overwrite
overwrite-run xs vs at h = sets-eq vs xs at h

-- a character written right after a text's place, and then the text
pub overwrite-before : (xs ys : List ℕ) (at d : ℕ) → at + length ys < length xs → overwrite (set xs (at + length ys) d) at ys ≡ overwrite xs at (ys ++ (d ∷ []))
unfolding overwrite
overwrite-before xs ys at d h =
    let n = at + length ys in
    let far : drop n (set xs n d) ≡ d ∷ drop (suc n) xs =
    drop-cons (set xs n d) n 0 (simp length-set h) ∙ ap₂ ◌∷◌ (get_or-set_same xs n d 0 h) (drop-set-lt (suc n) xs n d (omega arith)) in
    let e : suc n ≡ at + length (ys ++ (d ∷ [])) = rw length-append (omega arith) in
    ap₂ (λ (a b : List ℕ). a ++ ys ++ b) (take-set-le at xs n d (omega arith)) (far ∙ ap (λ (k : ℕ). d ∷ drop k xs) e)
    ∙ simp append_assoc

pub overwrite-length : (xs ys : List ℕ) (at : ℕ) → at + length ys ≤ length xs → length (overwrite xs at ys) ≡ length xs
unfolding overwrite
overwrite-length xs ys at h =
    simp (length-append, length-drop, length-take) (omega arith)

-- a message that stands at the start of a room, and what is written right after it
pub overwrite-next : (room front more room₁ : List ℕ) (n : ℕ) → room₁ ≡ overwrite room 0 front → n ≡ length front → overwrite room₁ n more ≡ overwrite room 0 (front ++ more)
overwrite-next room front more room₁ n p l =
    ap (λ (r : List ℕ). overwrite r n more) p ∙ overwrite-join room front more 0 n zero-le (l ∙ sym (zero-add (length front)))

-- the front of a room in which a message stands
pub overwrite-front : (room message : List ℕ) → take (length message) (overwrite room 0 message) ≡ message
unfolding overwrite
overwrite-front room message = take-append_seam message _

-- a store right after a write is one write
pub overwrite-store : (xs ys : List ℕ) (at i v : ℕ) → length ys ≡ i → at + i < length xs → set (overwrite xs at ys) (at + i) v ≡ overwrite xs at (ys ++ (v ∷ []))
overwrite-store xs ys at i v e h =
    let l : length (overwrite xs at ys) ≡ length xs = overwrite-length xs ys at (omega arith) in
    overwrite-run (overwrite xs at ys) (v ∷ []) (at + i) (omega arith)
    ∙ overwrite-join xs ys (v ∷ []) at (at + i) (omega arith) (ap (λ (k : ℕ). at + k) (sym e))

-- ---- what stands at a place after a write that fits

module _ (xs ys : List ℕ) (at k : ℕ) (fits : at + length ys ≤ length xs) where
  pub overwrite-below : k < at → get_or (overwrite xs at ys) k 0 ≡ get_or xs k 0
  unfolding overwrite
  overwrite-below h =
      let a = length-take-le at xs (omega arith) in
      let b = head-length xs ys at (omega arith) in
      get_or-append (take at xs ++ ys) (drop (at + length ys) xs) 0 k (omega arith)
      ∙ get_or-append (take at xs) ys 0 k (omega arith)
      ∙ get_or-take at xs k 0 h

  pub overwrite-within : at ≤ k → k < at + length ys → get_or (overwrite xs at ys) k 0 ≡ get_or ys (k - at) 0
  unfolding overwrite
  overwrite-within h l =
      let a = length-take-le at xs (omega arith) in
      let b = head-length xs ys at (omega arith) in
      let e : k ≡ length (take at xs) + (k - at) = omega arith in
      get_or-append (take at xs ++ ys) (drop (at + length ys) xs) 0 k (omega arith)
      ∙ ap (λ (n : ℕ). get_or (take at xs ++ ys) n 0) e
      ∙ get_or-append-add (take at xs) ys (k - at) 0

  pub overwrite-above : at + length ys ≤ k → get_or (overwrite xs at ys) k 0 ≡ get_or xs k 0
  unfolding overwrite
  overwrite-above h =
      let b = head-length xs ys at (omega arith) in
      let e : k ≡ length (take at xs ++ ys) + (k - (at + length ys)) = omega arith in
      let z : at + length ys + (k - (at + length ys)) ≡ k = omega arith in
      ap (λ (n : ℕ). get_or (take at xs ++ ys ++ drop (at + length ys) xs) n 0) e
      ∙ get_or-append-add (take at xs ++ ys) (drop (at + length ys) xs) (k - (at + length ys)) 0
      ∙ get_or-drop (at + length ys) xs (k - (at + length ys)) 0
      ∙ ap (λ (n : ℕ). get_or xs n 0) z
