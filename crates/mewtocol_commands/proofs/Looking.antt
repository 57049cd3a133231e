-- One look at a row: what a field does to each step, and that what was seen and what is left make the whole. Assumes nothing.
use mathlib.Core.Path.{◌≡◌, refl, sym, ap, ap₂, ◌∙◌}
use mathlib.Core.List.{List, [], ◌∷◌, ◌++◌}
use mathlib.Core.Bool.{Bool, true, false}
use Prim.Native.Nat.{ℕ, ◌+◌, ◌≤◌, ◌<◌}
use lib.Dec.{eqb}
use lib.ListN.{length, take, drop, get_or, drop_of_length-le}
use Rattle.rules.specs.Choice.{pick, both}
use Rattle.rules.proofs.Choose.{both_true, both-assoc, pick_same}
use Rattle.mewtocol_commands.specs.Fields.{width, step_of, right, amount}
use Rattle.mewtocol_commands.specs.Rows.{passing, every, is_letter, numbers, also}
use Rattle.mewtocol_commands.specs.Code.{found_of, Onward, Looks}
use Rattle.mewtocol_commands.specs.declared.Field.{Field}
use Rattle.mewtocol_commands.specs.declared.Field.TheVariants.{LetterR}
use Rattle.mewtocol_commands.specs.declared.Found.{Found}
use Rattle.mewtocol_commands.specs.declared.Found.TheVariants.{Nothing, One, Two}
use Rattle.mewtocol_commands.specs.declared.Seen.{Seen}
use Rattle.mewtocol_commands.proofs.OverRows.{every-turn, numbers-turn}

-- ---- a field

pub right-passes : (b : Bool) (step : ℕ) (f : Field) (s : List ℕ) → right f s ≡ true → b ≡ both b (passing step f s)
right-passes b step f s e =
    sym (ap (both b) (ap (λ (x : Bool). pick (eqb step (step_of f)) x true) e ∙ pick_same (eqb step (step_of f)) true) ∙ both_true b)

pub wrong-passes : (b : Bool) (step : ℕ) (f : Field) (s : List ℕ) (own : ℕ) (r : Bool) → right f s ≡ false → own ≡ step_of f
    → r ≡ both b (pick (eqb step own) false true) → r ≡ both b (passing step f s)
wrong-passes b step f s own r e eo er = er ∙ ap₂ (λ (m : ℕ) (x : Bool). both b (pick (eqb step m) x true)) eo (sym e)

-- ---- a row: i of its fields were seen

pub record Left (fs : List Field) (t : List ℕ) (seen : Seen) (i at : ℕ) : Type 0 where
  pub letters : both seen.letters (every 3 (drop i fs) (drop at t)) ≡ every 3 fs t
  pub digits : both seen.digits (every 4 (drop i fs) (drop at t)) ≡ every 4 fs t
  pub values : both seen.values (every 7 (drop i fs) (drop at t)) ≡ every 7 fs t
  pub found : take 2 (found_of seen.found ++ numbers (drop i fs) (drop at t)) ≡ take 2 (numbers fs t)

found_turn : (letter : Bool) (x : ℕ) (found : Found) (ns : List ℕ)
    → take 2 (found_of (pick letter found (also found x)) ++ ns) ≡ take 2 (found_of found ++ pick letter ns (x ∷ ns))
found_turn true x found ns = refl
found_turn false x Nothing ns = refl
found_turn false x (One a) ns = refl
found_turn false x (Two a b) ns = refl

found_all : (found : Found) → found_of found ≡ take 2 (found_of found ++ [])
found_all Nothing = refl
found_all (One a) = refl
found_all (Two a b) = refl

module _ (fs : List Field) (t : List ℕ) (i at : ℕ) where
  step-turn : (step : ℕ) (f : Field) (s : List ℕ) (b r w : Bool) → i < length fs → f ≡ get_or fs i LetterR → s ≡ drop at t
      → r ≡ both b (passing step f s) → both b (every step (drop i fs) (drop at t)) ≡ w
      → both r (every step (drop (i + 1) fs) (drop (at + width f) t)) ≡ w
  step-turn step f s b r w h ef es er inv =
      let more = every step (drop (i + 1) fs) (drop (at + width f) t) in
      ap (λ (x : Bool). both x more) er
      ∙ both-assoc b (passing step f s) more
      ∙ sym (ap (both b) (every-turn step fs t i at f s (passing step f s) h ef es refl))
      ∙ inv

  pub look-turn : (seen r : Seen) (f : Field) (s : List ℕ) → i < length fs → f ≡ get_or fs i LetterR → s ≡ drop at t → Onward seen f s r
      → Left fs t seen i at → Left fs t r (i + 1) (at + width f)
  look-turn seen r f s h ef es on inv =
      let more = numbers (drop (i + 1) fs) (drop (at + width f) t) in
      let next : r.found ≡ pick (is_letter f) seen.found (also seen.found (amount f (drop at t))) =
      on.found ∙ ap (λ (l : List ℕ). pick (is_letter f) seen.found (also seen.found (amount f l))) es in
      record {
        letters = step-turn 3 f s seen.letters r.letters _ h ef es on.letters inv.letters;
        digits = step-turn 4 f s seen.digits r.digits _ h ef es on.digits inv.digits;
        values = step-turn 7 f s seen.values r.values _ h ef es on.values inv.values;
        found =
            ap (λ (g : Found). take 2 (found_of g ++ more)) next
            ∙ found_turn (is_letter f) (amount f (drop at t)) seen.found more
            ∙ sym (ap (λ (ns : List ℕ). take 2 (found_of seen.found ++ ns)) (numbers-turn fs t i at f h ef))
            ∙ inv.found;
      }

  step-ends : (step : ℕ) (b w : Bool) → length fs ≤ i → both b (every step (drop i fs) (drop at t)) ≡ w → b ≡ w
  unfolding every
  step-ends step b w h inv =
      sym (both_true b) ∙ sym (ap (λ (l : List Field). both b (every step l (drop at t))) (drop_of_length-le fs h)) ∙ inv

  pub look-ends : (seen : Seen) → length fs ≤ i → Left fs t seen i at → Looks fs t seen
  unfolding numbers
  look-ends seen h inv =
      record {
        letters = step-ends 3 _ _ h inv.letters;
        digits = step-ends 4 _ _ h inv.digits;
        values = step-ends 7 _ _ h inv.values;
        found =
            found_all seen.found
            ∙ sym (ap (λ (l : List Field). take 2 (found_of seen.found ++ numbers l (drop at t))) (drop_of_length-le fs h))
            ∙ inv.found;
      }

-- ---- its numbers

pub first_two : (ns : List ℕ) → (get_or (take 2 ns) 0 0 ≡ get_or ns 0 0) × (get_or (take 2 ns) 1 0 ≡ get_or ns 1 0)
first_two [] = (refl, refl)
first_two (a ∷ []) = (refl, refl)
first_two (a ∷ b ∷ ns) = (refl, refl)
