-- A run of words, written one by one, is one write; and the words of a run of bytes or of a text, by their place. Assumes nothing.
use mathlib.Core.Path.{◌≡◌, refl, sym, ap, ap₂, ◌∙◌}
use mathlib.Core.List.{List, [], ◌∷◌, ◌++◌}
use Prim.Native.Nat.{ℕ, zero, suc, ◌+◌, ◌*◌, ◌≤◌, ◌<◌, zero-le}
use native.Mathlib.Numerals.{add-one}
use native.Mathlib.Omega.{arith}
use lib.ListN.{length, take, drop, get_or, set, length-set}
use lib.Seq.{take-suc, take_all, get_or-drop, drop-drop, length-take-le}
use Rattle.text_rooms.specs.Room.{overwrite}
use Rattle.text_rooms.proofs.Overwrite.{overwrite-none, overwrite-store}
use Rattle.text_digits.specs.Digits.{with_number}
use Rattle.text_hex_words.specs.Words.{low_first_word}
use Rattle.table_registers.specs.Operation.{words_of_bytes, words_of_text}

-- the first i values stand in the words from start on
abbrev pub Upto : List ℕ → List ℕ → ℕ → List ℕ → ℕ → Type 0
Upto vs words₀ start words i = (i ≤ length vs) × (length words ≡ length words₀) × (words ≡ overwrite words₀ start (take i vs))

pub upto-none : (vs words : List ℕ) (start : ℕ) → Upto vs words start words 0
upto-none vs words start = (zero-le, refl, sym (overwrite-none words start))

-- one value more
pub upto-more : (vs words₀ : List ℕ) (start : ℕ) {words : List ℕ} {i v : ℕ} → start + length vs ≤ length words₀ → i < length vs → v ≡ get_or vs i 0
    → Upto vs words₀ start words i → Upto vs words₀ start (set words (start + i) v) (i + 1)
upto-more vs words₀ start {words} {i} {v} fits more e upto = (
  omega arith,
  simp length-set upto.1,
  ap (λ (w : List ℕ). set w (start + i) v) upto.2
      ∙ overwrite-store words₀ (take i vs) start i v (length-take-le i vs upto.0) (omega arith)
      ∙ ap (overwrite words₀ start) (ap (λ (x : ℕ). take i vs ++ (x ∷ [])) e ∙ sym (take-suc vs i 0 more) ∙ ap (λ (k : ℕ). take k vs) (sym (add-one i))),
)

-- all of them
pub upto_all : (vs words₀ : List ℕ) (start : ℕ) {words : List ℕ} {i : ℕ} → length vs ≤ i → Upto vs words₀ start words i → words ≡ overwrite words₀ start vs
upto_all vs words₀ start {words} {i} h upto = upto.2 ∙ ap (overwrite words₀ start) (take_all i vs h)

-- ---- words by their place

pub words_of_bytes-length : (n : ℕ) (s : List ℕ) → length (words_of_bytes n s) ≡ n
unfolding words_of_bytes
words_of_bytes-length zero s = refl
words_of_bytes-length (suc n) s = ap suc (words_of_bytes-length n (drop 2 s))

pub words_of_bytes-at : (n : ℕ) (s : List ℕ) (i : ℕ) → i < n → get_or (words_of_bytes n s) i 0 ≡ get_or s (2 * i) 0 * 256 + get_or s (2 * i + 1) 0
unfolding words_of_bytes
words_of_bytes-at zero s i h = absurd (omega arith)
words_of_bytes-at (suc n) s zero h = refl
words_of_bytes-at (suc n) s (suc i) h =
    let a : 2 + 2 * i ≡ 2 * suc i = omega arith in
    let b : 2 + (2 * i + 1) ≡ 2 * suc i + 1 = omega arith in
    words_of_bytes-at n (drop 2 s) i (omega arith)
    ∙ ap₂ (λ (x y : ℕ). x * 256 + y) (get_or-drop 2 s (2 * i) 0 ∙ ap (λ (k : ℕ). get_or s k 0) a) (get_or-drop 2 s (2 * i + 1) 0 ∙ ap (λ (k : ℕ). get_or s k 0) b)

pub words_of_text-length : (n : ℕ) (s : List ℕ) → length (words_of_text n s) ≡ n
unfolding words_of_text
words_of_text-length zero s = refl
words_of_text-length (suc n) s = ap suc (words_of_text-length n (drop 4 s))

pub words_of_text-at : (n : ℕ) (s : List ℕ) (i : ℕ) → i < n → get_or (words_of_text n s) i 0 ≡ with_number (low_first_word (drop (4 * i) s)) (λ w. w) 0
unfolding words_of_text
words_of_text-at zero s i h = absurd (omega arith)
words_of_text-at (suc n) s zero h = refl
words_of_text-at (suc n) s (suc i) h =
    let a : 4 + 4 * i ≡ 4 * suc i = omega arith in
    words_of_text-at n (drop 4 s) i (omega arith)
    ∙ ap (λ (t : List ℕ). with_number (low_first_word t) (λ w. w) 0) (drop-drop (4 * i) 4 s ∙ ap (λ (k : ℕ). drop k s) a)
