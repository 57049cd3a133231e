-- What was seen of the part whose length is known is what the steps ask of the whole text. Assumes nothing.
use mathlib.Core.Bool.{Bool, true, false}
use mathlib.Core.List.{List, [], ◌∷◌}
use mathlib.Core.Path.{◌≡◌, refl, sym, ap, ap₂, ◌∙◌}
use Prim.Native.Nat.{ℕ, zero, suc, ◌+◌, ◌-◌, ◌*◌}
use native.Mathlib.Omega.{arith}
use lib.Dec.{eqb}
use lib.ListN.{length, take, drop, get_or, length-drop}
use Rattle.rules.specs.Choice.{pick, both}
use Rattle.rules.proofs.Choose.{both_true}
use Rattle.mewtocol_frame.specs.Text.{span}
use Rattle.mewtocol_commands.specs.declared.Field.TheVariants.{Word}
use Rattle.mewtocol_commands.specs.declared.Found.{Found}
use Rattle.mewtocol_commands.specs.Fields.{right}
use Rattle.mewtocol_commands.specs.Rows.{times, widths, every, numbers}
use Rattle.mewtocol_commands.specs.Commands.{Layout, once, counted, with_words, row_in, fields_of}
use Rattle.mewtocol_commands.specs.Code.{found_of}
use Rattle.mewtocol_commands.proofs.OverRows.{every_append, widths-append, times-widths}
use Rattle.mewtocol_commands.proofs.Looking.{first_two}
use Rattle.mewtocol_steps.specs.Steps.{listed, start_in, end_in}
use Rattle.mewtocol_steps.specs.Seeing.{known_part, right_data}
use Rattle.mewtocol_steps.proofs.HexData.{words-hex}

-- steps 3 and 4 pass over words
words-passed : (step n : ℕ) (t : List ℕ) → eqb step 7 ≡ false → every step (times n (Word ∷ [])) t ≡ true
unfolding every times
words-passed step zero t e = refl
words-passed step (suc n) t e =
    ap (λ (b : Bool). both (pick b (right Word t) true) (every step (times n (Word ∷ [])) (drop 4 t))) e ∙ words-passed step n (drop 4 t) e

pub known_step : (step : ℕ) (y : Layout) (n : ℕ) (t : List ℕ) (b : Bool) → eqb step 7 ≡ false → b ≡ every step (known_part y n) t → b ≡ every step (fields_of y n) t
known_step step (once r) n t b e h = h
known_step step (counted r) n t b e h = h
known_step step (with_words r) n t b e h =
    h ∙ sym (every_append step r (times n (Word ∷ [])) t ∙ ap (both (every step r t)) (words-passed step n (drop (widths r) t) e) ∙ both_true (every step r t))

words_long : (r k l : ℕ) → l ≡ r + 4 * k → l - r ≡ 4 * k
words_long r k l e = omega (arith, e)

-- four characters a word
pub four : (k : ℕ) → widths (times k (Word ∷ [])) ≡ 4 * k
unfolding widths
four k = times-widths k (Word ∷ [])

-- step 7 over all fields, where the text is as long as they are
pub known-data : (y : Layout) (n start end : ℕ) (t : List ℕ) (b : Bool) → b ≡ every 7 (known_part y n) t
    → length t ≡ widths (fields_of y (listed y n start end)) → right_data y b t ≡ every 7 (fields_of y (listed y n start end)) t
known-data (once r) n start end t b h long = h
known-data (counted r) n start end t b h long = h
known-data (with_words r) n start end t b h long =
    let k = span start end in
    let more = drop (widths r) t in
    let rest : length more ≡ 4 * k =
    length-drop (widths r) t ∙ words_long (widths r) k (length t) (long ∙ widths-append r (times k (Word ∷ [])) ∙ ap (λ (m : ℕ). widths r + m) (four k)) in
    ap₂ both h (sym (words-hex k more rest)) ∙ sym (every_append 7 r (times k (Word ∷ [])) t)

-- start and end are the first two numbers found
pub start-found : (y : Layout) (t : List ℕ) (f : Found) → found_of f ≡ take 2 (numbers (row_in y) t) → get_or (found_of f) 0 0 ≡ start_in y t
start-found y t f e = ap (λ (l : List ℕ). get_or l 0 0) e ∙ (first_two (numbers (row_in y) t)).0

pub end-found : (y : Layout) (t : List ℕ) (f : Found) → found_of f ≡ take 2 (numbers (row_in y) t) → get_or (found_of f) 1 0 ≡ end_in y t
end-found y t f e = ap (λ (l : List ℕ). get_or l 1 0) e ∙ (first_two (numbers (row_in y) t)).1
