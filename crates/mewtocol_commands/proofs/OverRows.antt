-- Laws of rows: which field stands where, how wide they are, and one turn of a loop over a row or over a row that repeats.
-- Assumes nothing.
use mathlib.Core.Path.{◌≡◌, refl, sym, ap, ap₂, ◌∙◌}
use mathlib.Core.List.{List, [], ◌∷◌, ◌++◌}
use mathlib.Core.Bool.{Bool, true, false}
use Prim.Native.Nat.{ℕ, zero, suc, ◌+◌, ◌-◌, ◌*◌, ◌≤◌, ◌<◌}
use native.Mathlib.Nat.{zero-add, add_assoc}
use native.Mathlib.Numerals.{add-one}
use native.Mathlib.Omega.{arith}
use borrow.Author.Tests.{ne_eqb}
use lib.Dec.{eqb}
use lib.ListN.{length, drop, get_or}
use lib.Seq.{drop-drop, drop-cons}
use Rattle.std.proofs.lemmas.List.{get_or_default, get_or-take, length-take}
use Rattle.rules.specs.Choice.{pick, both}
use Rattle.mewtocol_commands.specs.Fields.{width, step_of, right, amount}
use Rattle.mewtocol_commands.specs.Rows.{times, widths, every, is_letter, numbers}
use Rattle.mewtocol_commands.specs.Code.{row_of}
use Rattle.mewtocol_commands.specs.declared.Field.{Field}
use Rattle.mewtocol_commands.specs.declared.Field.TheVariants.{LetterR, LetterD, Relay, Register, Contact, Value, Word}
use Rattle.mewtocol_commands.specs.declared.Row.{Row}

-- ---- the code's rows

-- field i, as the code finds it
pub row_field : (r : Row) (i : ℕ) (d : Field) → i < length (row_of r) → get_or r.fields i (get_or r.fields 3 Word) ≡ get_or (row_of r) i d
row_field r i d h =
    get_or_default r.fields i (get_or r.fields 3 Word) d (omega (arith, length-take r.size r.fields))
    ∙ sym (get_or-take r.size r.fields i d (omega (arith, length-take r.size r.fields)))

-- ---- widths

pub width_small : (f : Field) → width f ≤ 5
width_small LetterR = omega arith
width_small LetterD = omega arith
width_small Relay = omega arith
width_small Register = omega arith
width_small Contact = omega arith
width_small Value = omega arith
width_small Word = omega arith

mul-zero' : (a : ℕ) → 0 ≡ a * 0
mul-zero' a = omega arith

mul-suc' : (a k : ℕ) → a * suc k ≡ a + a * k
mul-suc' a k = omega arith

pub widths-append : (fs gs : List Field) → widths (fs ++ gs) ≡ widths fs + widths gs
unfolding widths
widths-append [] gs = sym (zero-add (widths gs))
widths-append (f ∷ fs) gs = rw (widths-append fs gs) (sym (add_assoc (width f) (widths fs) (widths gs)))

pub times-widths : (k : ℕ) (u : List Field) → widths (times k u) ≡ widths u * k
unfolding times widths
times-widths zero u = mul-zero' (widths u)
times-widths (suc k) u = rw (widths-append u (times k u), times-widths k u) (sym (mul-suc' (widths u) k))

pub widths-turn : (fs : List Field) (i : ℕ) (f : Field) → i < length fs → f ≡ get_or fs i LetterR → widths (drop i fs) ≡ width f + widths (drop (i + 1) fs)
unfolding widths
widths-turn fs i f h e =
    ap widths (drop-cons fs i LetterR h) ∙ ap₂ (λ (a : Field) (k : ℕ). width a + widths (drop k fs)) (sym e) (sym (add-one i))

-- ---- a step over a row

pub every-turn : (step : ℕ) (fs : List Field) (t : List ℕ) (i at : ℕ) (f : Field) (s : List ℕ) (r : Bool)
    → i < length fs → f ≡ get_or fs i LetterR → s ≡ drop at t → r ≡ pick (eqb step (step_of f)) (right f s) true
    → every step (drop i fs) (drop at t) ≡ both r (every step (drop (i + 1) fs) (drop (at + width f) t))
unfolding every
every-turn step fs t i at f s r h ef es er =
    let g = get_or fs i LetterR in
    let er' : r ≡ pick (eqb step (step_of g)) (right g (drop at t)) true = er ∙ ap₂ (λ (a : Field) (b : List ℕ). pick (eqb step (step_of a)) (right a b) true) ef es in
    ap (λ (l : List Field). every step l (drop at t)) (drop-cons fs i LetterR h)
    ∙ ap₂ (λ (a : Bool) (l : List ℕ). both a (every step (drop (suc i) fs) l)) (sym er') (drop-drop (width g) at t)
    ∙ ap₂ (λ (n : ℕ) (a : Field). both r (every step (drop n fs) (drop (at + width a) t))) (sym (add-one i)) (sym ef)

both-assoc : (a b c : Bool) → both a (both b c) ≡ both (both a b) c
both-assoc true b c = refl
both-assoc false b c = refl

pub every_append : (step : ℕ) (fs gs : List Field) (t : List ℕ) → every step (fs ++ gs) t ≡ both (every step fs t) (every step gs (drop (widths fs) t))
unfolding every widths
every_append step [] gs t = refl
every_append step (f ∷ fs) gs t =
    let b = pick (eqb step (step_of f)) (right f t) true in
    ap (both b) (every_append step fs gs (drop (width f) t) ∙ ap (λ (s : List ℕ). both (every step fs (drop (width f) t)) (every step gs s)) (drop-drop (widths fs) (width f) t))
    ∙ both-assoc b (every step fs (drop (width f) t)) (every step gs (drop (width f + widths fs) t))

-- and over a row that repeats: i times are done
pub times-turn : (step : ℕ) (u : List Field) (t : List ℕ) (k i at : ℕ) → i < k
    → every step (times (k - i) u) (drop at t) ≡ both (every step u (drop at t)) (every step (times (k - (i + 1)) u) (drop (at + widths u) t))
unfolding times
times-turn step u t k i at h =
    let e : k - i ≡ suc (k - (i + 1)) = omega arith in
    ap (λ (m : ℕ). every step (times m u) (drop at t)) e
    ∙ every_append step u (times (k - (i + 1)) u) (drop at t)
    ∙ ap (λ (s : List ℕ). both (every step u (drop at t)) (every step (times (k - (i + 1)) u) s)) (drop-drop (widths u) at t)

-- ---- the numbers of a row

number_of : (letter : Bool) (x : ℕ) (xs : List ℕ) (left : ℕ)
    → get_or (pick letter xs (x ∷ xs)) left 0 ≡ pick (pick letter false (eqb left 0)) x (get_or xs (pick letter left (left - 1)) 0)
number_of true x xs left = refl
number_of false x xs zero = refl
number_of false x xs (suc m) = let e : suc m - 1 ≡ m = omega arith in rw (ne_eqb (suc m) 0 (λ h. absurd (omega arith)), e) refl

pub numbers-turn : (fs : List Field) (t : List ℕ) (i at : ℕ) (f : Field) → i < length fs → f ≡ get_or fs i LetterR
    → let more = numbers (drop (i + 1) fs) (drop (at + width f) t) in numbers (drop i fs) (drop at t) ≡ pick (is_letter f) more (amount f (drop at t) ∷ more)
unfolding numbers
numbers-turn fs t i at f h e =
    let said : List ℕ → List ℕ = λ more. pick (is_letter f) more (amount f (drop at t) ∷ more) in
    ap (λ (l : List Field). numbers l (drop at t)) (drop-cons fs i LetterR h)
    ∙ ap (λ (g : Field). numbers (g ∷ drop (suc i) fs) (drop at t)) (sym e)
    ∙ ap (λ (s : List ℕ). said (numbers (drop (suc i) fs) s)) (drop-drop (width f) at t)
    ∙ ap (λ (k : ℕ). said (numbers (drop k fs) (drop (at + width f) t))) (sym (add-one i))

pub number-turn : (fs : List Field) (t : List ℕ) (i at left : ℕ) (f : Field) → i < length fs → f ≡ get_or fs i LetterR
    → get_or (numbers (drop i fs) (drop at t)) left 0
    ≡ pick (pick (is_letter f) false (eqb left 0)) (amount f (drop at t)) (get_or (numbers (drop (i + 1) fs) (drop (at + width f) t)) (pick (is_letter f) left (left - 1)) 0)
number-turn fs t i at left f h e =
    ap (λ (ns : List ℕ). get_or ns left 0) (numbers-turn fs t i at f h e) ∙ number_of (is_letter f) (amount f (drop at t)) _ left
