-- Laws of a list that is written into a room, element by element, each in so many bytes: a loop "write g x at o; o += w; i += 1" keeps
-- `Upto`, and at its end the room is one write of the whole list's text. Assumes nothing.
use mathlib.Core.Path.{◌≡◌, refl, sym, ap, ◌∙◌}
use mathlib.Core.List.{List, [], ◌∷◌, ◌++◌, map, append_assoc, append-nil}
use Prim.Native.Nat.{ℕ, ◌+◌, ◌*◌, ◌≤◌, ◌<◌, zero-le}
use native.Mathlib.Nat.{mul-le-mul_left}
use native.Mathlib.Numerals.{add-one}
use native.Mathlib.Omega.{arith}
use lib.ListN.{length, take, get_or, length-append}
use lib.Seq.{take-suc, take_all, length-take-le}
use Rattle.text_rooms.specs.Room.{overwrite, each}
use Rattle.text_rooms.proofs.Overwrite.{overwrite-none, overwrite-join, overwrite-length}

pub each-length : {A : Type 0} (g : A → List ℕ) (w : ℕ) → ((x : A) → length (g x) ≡ w) → (xs : List A) → length (each g xs) ≡ w * length xs
unfolding each
each-length g w h [] = omega arith
each-length g w h (x ∷ xs) = rw (length-append, h x) (omega (arith, each-length g w h xs))

pub each_append : {A : Type 0} (g : A → List ℕ) (xs ys : List A) → each g (xs ++ ys) ≡ each g xs ++ each g ys
unfolding each
each_append g [] ys = refl
each_append g (x ∷ xs) ys = ap (λ (t : List ℕ). g x ++ t) (each_append g xs ys) ∙ sym (append_assoc (g x) (each g xs) (each g ys))

-- a list of bytes, made one by one
pub each-one : {A : Type 0} (h : A → ℕ) (xs : List A) → each (λ (x : A). h x ∷ []) xs ≡ map h xs
unfolding each
each-one h [] = refl
each-one h (x ∷ xs) = ap (λ (t : List ℕ). h x ∷ t) (each-one h xs)

-- the first i elements and one more
pub each_more : (g : ℕ → List ℕ) (xs : List ℕ) (i : ℕ) → i < length xs → each g (take (i + 1) xs) ≡ each g (take i xs) ++ g (get_or xs i 0)
unfolding each
each_more g xs i h =
    ap (λ (k : ℕ). each g (take k xs)) (add-one i) ∙ ap (each g) (take-suc xs i 0 h) ∙ each_append g (take i xs) (get_or xs i 0 ∷ [])
    ∙ ap (λ (t : List ℕ). each g (take i xs) ++ t) (append-nil (g (get_or xs i 0)))

-- the first i elements stand in the room from index at on, w bytes each, and o is where the next belongs
abbrev pub Upto : (ℕ → List ℕ) → ℕ → List ℕ → List ℕ → ℕ → List ℕ → ℕ → ℕ → Type 0
Upto g w xs room₀ at room i o =
    (i ≤ length xs) × (o ≡ at + w * i) × (length room ≡ length room₀) × (room ≡ overwrite room₀ at (each g (take i xs)))

pub upto-none : (g : ℕ → List ℕ) (w : ℕ) (xs room : List ℕ) (at : ℕ) → Upto g w xs room at room 0 at
unfolding each
upto-none g w xs room at = (zero-le, omega arith, refl, sym (overwrite-none room at))

-- one element more
pub upto-more : (g : ℕ → List ℕ) (w : ℕ) (xs room₀ : List ℕ) (at : ℕ) {room room₁ : List ℕ} {i o : ℕ} → ((x : ℕ) → length (g x) ≡ w)
    → at + w * length xs ≤ length room₀ → i < length xs → Upto g w xs room₀ at room i o → room₁ ≡ overwrite room o (g (get_or xs i 0))
    → Upto g w xs room₀ at room₁ (i + 1) (o + w)
upto-more g w xs room₀ at {room} {room₁} {i} {o} width fits more upto e =
    let t = each g (take i xs) in
    let x = g (get_or xs i 0) in
    let n : o ≡ at + length t = rw (each-length g w width, length-take-le i xs upto.0) upto.1 in
    let k : length x ≡ w = width (get_or xs i 0) in
    let last : w * (i + 1) ≤ w * length xs = mul-le-mul_left w (omega arith) in (
      omega arith,
      omega (arith, upto.1),
      ap length e ∙ overwrite-length room x o (omega (arith, upto.1, upto.2, last)) ∙ upto.2,
      e ∙ ap (λ (r : List ℕ). overwrite r o x) upto.3 ∙ overwrite-join room₀ t x at o (omega arith) n
          ∙ ap (overwrite room₀ at) (sym (each_more g xs i more)),
    )

-- all of them
pub upto_all : (g : ℕ → List ℕ) (w : ℕ) (xs room₀ : List ℕ) (at : ℕ) {room : List ℕ} {i o : ℕ} → length xs ≤ i → Upto g w xs room₀ at room i o
    → room ≡ overwrite room₀ at (each g xs)
upto_all g w xs room₀ at {room} {i} {o} done upto = upto.3 ∙ ap (λ (ys : List ℕ). overwrite room₀ at (each g ys)) (take_all i xs done)
