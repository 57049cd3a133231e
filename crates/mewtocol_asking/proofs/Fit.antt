-- Laws of numbers in fields: one turn of a loop over a row, and rows one after the other; and where the numbers of a list of settings
-- stand. Assumes nothing.
use mathlib.Core.Path.{◌≡◌, refl, sym, ap, ap₂, ◌∙◌}
use mathlib.Core.List.{List, [], ◌∷◌, ◌++◌}
use mathlib.Core.Bool.{Bool, true, false}
use Prim.Native.Nat.{ℕ, zero, suc, ◌+◌, ◌-◌, ◌/◌, ◌%◌, ◌≤◌, ◌<◌}
use native.Mathlib.Nat.{add-zero}
use native.Mathlib.Numerals.{add-one}
use native.Mathlib.Omega.{arith}
use lib.Dec.{eqb, ltb}
use lib.ListN.{length, drop, get_or}
use lib.Seq.{drop-drop, drop-cons, get_or-drop}
use Rattle.rules.specs.Choice.{pick, both}
use Rattle.rules.proofs.Choose.{pick_same}
use Rattle.mewtocol_commands.specs.Fields.{room}
use Rattle.mewtocol_commands.specs.Rows.{is_letter, times}
use Rattle.mewtocol_requests.specs.Code.{paired}
use Rattle.mewtocol_commands.specs.declared.Field.{Field}
use Rattle.mewtocol_commands.specs.declared.Field.TheVariants.{LetterR}
use Rattle.mewtocol_asking.specs.Asking.{says, fit, spread}
use Rattle.mewtocol_asking.specs.Code.{says_all}

-- ---- a row

pub says-small : (f : Field) → says f ≤ 1
says-small f = by (is_letter f)
  where
    by : (b : Bool) → pick b 0 1 ≤ 1
    by true = omega arith
    by false = omega arith

pub says-turn : (fs : List Field) (i : ℕ) (f : Field) → i < length fs → f ≡ get_or fs i LetterR → says_all (drop i fs) ≡ says f + says_all (drop (i + 1) fs)
unfolding says_all
says-turn fs i f h e = ap says_all (drop-cons fs i LetterR h) ∙ ap₂ (λ (a : Field) (k : ℕ). says a + says_all (drop k fs)) (sym e) (sym (add-one i))

pub fit-turn : (fs : List Field) (ns : List ℕ) (i k : ℕ) (f : Field) → i < length fs → f ≡ get_or fs i LetterR
    → fit (drop i fs) (drop k ns) ≡ both (pick (is_letter f) true (ltb (get_or ns k 0) (room f))) (fit (drop (i + 1) fs) (drop (k + says f) ns))
unfolding fit
fit-turn fs ns i k f h e =
    ap (λ (l : List Field). fit l (drop k ns)) (drop-cons fs i LetterR h)
    ∙ ap₂ (λ (g : Field) (j : ℕ). fit (g ∷ drop j fs) (drop k ns)) (sym e) (sym (add-one i))
    ∙ ap₂ (λ (n : ℕ) (l : List ℕ). both (pick (is_letter f) true (ltb n (room f))) (fit (drop (i + 1) fs) l))
    (get_or-drop k ns 0 0 ∙ ap (λ (j : ℕ). get_or ns j 0) (add-zero k)) (drop-drop (says f) k ns)

both-assoc : (a b c : Bool) → both a (both b c) ≡ both (both a b) c
both-assoc true b c = refl
both-assoc false b c = refl

pub fit_append : (fs gs : List Field) (ns : List ℕ) → fit (fs ++ gs) ns ≡ both (fit fs ns) (fit gs (drop (says_all fs) ns))
unfolding fit says_all
fit_append [] gs ns = refl
fit_append (f ∷ fs) gs ns =
    let b = pick (is_letter f) true (ltb (get_or ns 0 0) (room f)) in
    ap (both b) (fit_append fs gs (drop (says f) ns) ∙ ap (λ (l : List ℕ). both (fit fs (drop (says f) ns)) (fit gs l)) (drop-drop (says_all fs) (says f) ns))
    ∙ both-assoc b (fit fs (drop (says f) ns)) (fit gs (drop (says f + says_all fs) ns))

-- a row that repeats: i times are done
pub fit-times : (u : List Field) (ns : List ℕ) (n i k : ℕ) → i < n
    → fit (times (n - i) u) (drop k ns) ≡ both (fit u (drop k ns)) (fit (times (n - (i + 1)) u) (drop (k + says_all u) ns))
unfolding times
fit-times u ns n i k h =
    let e : n - i ≡ suc (n - (i + 1)) = omega arith in
    ap (λ (m : ℕ). fit (times m u) (drop k ns)) e
    ∙ fit_append u (times (n - (i + 1)) u) (drop k ns)
    ∙ ap (λ (l : List ℕ). both (fit u (drop k ns)) (fit (times (n - (i + 1)) u) l)) (drop-drop (says_all u) k ns)

-- ---- settings

pub spread_at : (cs vs : List ℕ) (j : ℕ) → length vs ≡ length cs → get_or (spread (paired cs vs)) j 0 ≡ pick (eqb (j % 2) 0) (get_or cs (j / 2) 0) (get_or vs (j / 2) 0)
unfolding spread paired
spread_at [] [] j e = sym (pick_same (eqb (j % 2) 0) 0)
spread_at [] (v ∷ vs) j e = absurd (omega arith)
spread_at (c ∷ cs) [] j e = absurd (omega arith)
spread_at (c ∷ cs) (v ∷ vs) zero e = refl
spread_at (c ∷ cs) (v ∷ vs) (suc zero) e = refl
spread_at (c ∷ cs) (v ∷ vs) (suc (suc j)) e =
    let m : j % 2 ≡ suc (suc j) % 2 = omega arith in
    let d : suc (j / 2) ≡ suc (suc j) / 2 = omega arith in
    spread_at cs vs j (omega arith)
    ∙ ap₂ (λ (a b : ℕ). pick (eqb a 0) (get_or (c ∷ cs) b 0) (get_or (v ∷ vs) b 0)) m d
