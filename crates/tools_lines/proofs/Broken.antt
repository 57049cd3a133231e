-- What a search for a byte gives, and what stands before and behind it: a text that is not empty is its first line, which ends before the
-- first line feed or at the text's end, and the lines behind that. By induction on the text. Assumes nothing.
use Rattle.std.proofs.Common.{◌≡◌, ℕ, suc, ◌+◌, ◌-◌, ◌<◌, ◌≤◌, Bool, false, true, List, [], ◌∷◌, Some, None, length, take, drop, min, refl, ap, ap₂, sym, ◌∙◌, arith}
use Rattle.std.specs.Prelude.{eqb, ltb, cond}
use Rattle.std.specs.List.{position_or_len}
use Rattle.std.proofs.lemmas.Bool.{ltb-false}
use Rattle.std.proofs.lemmas.List.{take_rest, drop_min, length-drop}
use Rattle.std.proofs.lemmas.List.Sums.{prefix_len-le-length}
use Rattle.tools_lines.specs.Lines.{onto, lines}

-- ---- what the library's search answers

found : (n l i : ℕ) (d : Bool) → Some i ≡ cond d (Some n) None → i ≡ n
found n l i true e = (cc)
found n l i false e = (cc)

lacking : (n l : ℕ) (d : Bool) → ltb n l ≡ d → n ≤ l → None ≡ cond d (Some n) None → l ≡ n
lacking n l true q h e = (cc)
lacking n l false q h e = omega (arith, ltb-false)

pub found_at : (test : ℕ → Bool) (s : List ℕ) (a i : ℕ) (xs : List ℕ) → xs ≡ take (length s - a) (drop a s) → Some i ≡ cond (ltb (position_or_len test xs) (length xs)) (Some (position_or_len test xs)) None → a + i ≡ a + position_or_len test (drop a s)
found_at test s a i xs q e =
    let r : xs ≡ drop a s = q ∙ take_rest s a in
    ap (λ n. a + n) (found _ (length xs) i _ e) ∙ ap (λ ys. a + position_or_len test ys) r

pub lacking_from : (test : ℕ → Bool) (s : List ℕ) (a : ℕ) (xs : List ℕ) → a ≤ length s → xs ≡ take (length s - a) (drop a s) → None ≡ cond (ltb (position_or_len test xs) (length xs)) (Some (position_or_len test xs)) None → length s ≡ a + position_or_len test (drop a s)
lacking_from test s a xs h q e =
    let r : xs ≡ drop a s = q ∙ take_rest s a in
    let l : length xs ≡ position_or_len test xs = lacking _ (length xs) _ refl (prefix_len-le-length _ xs) e in
    let m : length xs ≡ length s - a = ap length r ∙ length-drop a s in
    let n : length s ≡ a + position_or_len test xs = omega arith in
    n ∙ ap (λ ys. a + position_or_len test ys) r

-- ---- lines

abbrev feed : List ℕ → ℕ
feed s = position_or_len (λ b. eqb b 10) s

-- one byte more before the first line
ahead : (b : ℕ) (t : List ℕ) (q : ℕ) → lines t ≡ take q t ∷ lines (drop (q + 1) t) → onto b (lines t) ≡ take (1 + q) (b ∷ t) ∷ lines (drop (1 + q + 1) (b ∷ t))
unfolding onto
ahead b t q e =
    let one : 1 + q ≡ suc q = omega arith in
    let two : suc q + 1 ≡ suc (q + 1) = omega arith in
    rw (e, one, two)

turn :
    (b : ℕ) (s : List ℕ) (d : Bool)
    → eqb b 10 ≡ d
    → (0 < length s → lines s ≡ take (feed s) s ∷ lines (drop (feed s + 1) s))
    → lines (b ∷ s) ≡ take (feed (b ∷ s)) (b ∷ s) ∷ lines (drop (feed (b ∷ s) + 1) (b ∷ s))
unfolding lines onto
turn b s true e k = rw e
turn b [] false e k = rw e
turn b (c ∷ s) false e k = rw e (ahead b (c ∷ s) (feed (c ∷ s)) (k (omega arith)))

first_line : (s : List ℕ) → 0 < length s → lines s ≡ take (feed s) s ∷ lines (drop (feed s + 1) s)
first_line [] h = absurd (omega arith)
first_line (b ∷ s) h = turn b s (eqb b 10) refl (first_line s)

-- where nothing is left, nothing is behind it either
behind : (s : List ℕ) (p : ℕ) → take (length s - min (p + 1) (length s)) (drop (min (p + 1) (length s)) s) ≡ drop (p + 1) s
behind s p = take_rest s (min (p + 1) (length s)) ∙ drop_min (p + 1) s

pub line_then :
    (s : List ℕ) (p n : ℕ)
    → 0 < length s
    → p ≡ 0 + position_or_len (λ b. eqb b 10) (drop 0 s)
    → n ≡ min (p + 1) (length s)
    → lines s ≡ take p s ∷ lines (take (length s - n) (drop n s))
line_then s p n h e g =
    let q : p ≡ feed s = omega arith in
    let r : n ≡ min (feed s + 1) (length s) = omega arith in
    first_line s h ∙ ap₂ (λ (m : ℕ) (t : List ℕ). take m s ∷ lines t) (sym q) (sym (behind s (feed s)) ∙ ap (λ (m : ℕ). take (length s - m) (drop m s)) (sym r))

pub no_line : (s : List ℕ) → length s ≡ 0 → lines s ≡ []
unfolding lines
no_line [] e = refl
no_line (b ∷ s) e = absurd (omega arith)
