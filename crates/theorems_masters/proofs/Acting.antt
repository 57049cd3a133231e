-- An operation under its verdict, granted or refused, is an act on the cells that it touches; its verdict and what it is answered see the
-- cells that it reads. What may never pass acts as nothing, and its verdict is the same whatever the words. Assumes nothing.
use mathlib.Core.Path.{◌≡◌, refl, sym, ap, ◌∙◌}
use mathlib.Core.Bool.{Bool, true, false, false≢true}
use mathlib.Core.List.{List}
use Prim.Native.Nat.{ℕ}
use lib.ListN.{length}
use Rattle.rules.specs.Choice.{both}
use Rattle.table_registers.specs.declared.Verdict.{Verdict}
use Rattle.table_registers.specs.declared.Verdict.TheVariants.{Granted, Lacking, Unfit}
use Rattle.table_registers.specs.declared.Profile.{Profile}
use Rattle.table_registers.specs.Bits.{cell_at}
use Rattle.table_registers.specs.Operation.{Operation, address_check, after, shows, words_after, is_granted}
use Rattle.table_registers.specs.Profile.{takes, verdict}
use Rattle.table_registers.proofs.Profiles.{fitting-granted}
use Rattle.table_registers.proofs.Done.{refused-keeps}
use Rattle.table_registers.proofs.Held.{keeps-count}
use Rattle.station.specs.Site.{Errors, said}
use Rattle.table_cells.specs.Cells.{Cells, touches, may_pass, reading, writing}
use Rattle.theorems_masters.specs.Masters.{Words}
use Rattle.theorems_masters.proofs.Commute.{Agree, Table, Acts, Sees, idle, acts-as}
use Rattle.theorems_masters.proofs.Writes.{Well, after-words, after_frame, after-local, shows_same}
use Rattle.theorems_masters.proofs.Judged.{judged-alike, agree-alike, judged-refused}
use Rattle.theorems_masters.proofs.Passing.{no_words}

module _ (us : List ℕ) (p : Profile) (o : Operation) (well : Well o) where
  abbrev judge : List ℕ → Verdict
  judge w = verdict p us w o

  abbrev left : List ℕ → List ℕ
  left w = words_after (judge w) o w

  passed : (w : List ℕ) → judge w ≡ Granted → address_check us (length w) o ≡ Granted
  passed w e = (fitting-granted (takes p o (after o w)) (address_check us (length w) o) e).1

  -- ---- what may pass

  left-words : (w : List ℕ) → Words w → (v : Verdict) → judge w ≡ v → Words (words_after v o w)
  unfolding words_after
  left-words w h Granted e = after-words us w o well (passed w e) h
  left-words w h (Lacking i) e = h
  left-words w h Unfit e = h

  left-frame : (w : List ℕ) (c : ℕ) → touches o writing c ≡ false → (v : Verdict) → judge w ≡ v → cell_at (words_after v o w) c ≡ cell_at w c
  unfolding words_after
  left-frame w c f Granted e = after_frame us w o c (passed w e) f
  left-frame w c f (Lacking i) e = refl
  left-frame w c f Unfit e = refl

  judge-sees : Sees (length us) judge (touches o)
  judge-sees w w' t t' r = judged-alike p us w w' o (t.0 ∙ sym t'.0) (agree-alike o w w' t.1 t'.1 r)

  left-local : (w w' : List ℕ) (c : ℕ) → Table (length us) w → Table (length us) w' → Agree (touches o reading) w w' → Agree (touches o writing) w w'
      → touches o writing c ≡ true → (v : Verdict) → judge w ≡ v → cell_at (words_after v o w) c ≡ cell_at (words_after v o w') c
  unfolding words_after
  left-local w w' c t t' r a f Granted e = after-local us w w' o c well (passed w e) (t.0 ∙ sym t'.0) t.1 t'.1 r f
  left-local w w' c t t' r a f (Lacking i) e = a c f
  left-local w w' c t t' r a f Unfit e = a c f

  touching : Acts (length us) left (touches o)
  touching = record {
    keeps = λ w t. (keeps-count p o w us (judge w) (left w) (record { verdict-is = refl; words-is = refl }) ∙ t.0, left-words w t.1 (judge w) refl);
    frame = λ w c t f. left-frame w c f (judge w) refl;
    local = λ w w' c t t' r a f. left-local w w' c t t' r a f (judge w) refl ∙ ap (λ (v : Verdict). cell_at (words_after v o w') c) (judge-sees w w' t t' r);
  }

  said_same : (x : Errors) (reply : List ℕ → List ℕ) (w w' : List ℕ) → Table (length us) w → Table (length us) w' → Agree (touches o reading) w w'
      → (v : Verdict) → judge w ≡ v → said x (reply (shows o w)) v ≡ said x (reply (shows o w')) v
  unfolding said
  said_same x reply w w' t t' r Granted e = ap (λ (s : List ℕ). said x (reply s) Granted) (shows_same us w w' o (passed w e) (t.0 ∙ sym t'.0) t.1 t'.1 r)
  said_same x reply w w' t t' r (Lacking i) e = refl
  said_same x reply w w' t t' r Unfit e = refl

  -- ---- what may or may not

  abbrev may_touch : Bool → Cells
  may_touch b way c = both b (touches o way c)

  never-passes : may_pass (verdict p us) (length us) o ≡ false → (w : List ℕ) → Table (length us) w → is_granted (judge w) ≡ false
  never-passes e w t = no_words us p o e w t.0 t.1

  pub operation-acts : (b : Bool) → may_pass (verdict p us) (length us) o ≡ b → Acts (length us) left (may_touch b)
  operation-acts true e = touching
  operation-acts false e = acts-as (λ w t. refused-keeps o w (judge w) (never-passes e w t)) (λ way c. refl) (idle (length us) (λ way c. false))

  said-refused : (x : Errors) (s s' : List ℕ) (v : Verdict) → is_granted v ≡ false → said x s v ≡ said x s' v
  unfolding said
  said-refused x s s' Granted e = absurd (false≢true (sym e))
  said-refused x s s' (Lacking i) e = refl
  said-refused x s s' Unfit e = refl

  pub operation-sees : (x : Errors) (reply : List ℕ → List ℕ) (b : Bool) → may_pass (verdict p us) (length us) o ≡ b
      → Sees (length us) (λ w. said x (reply (shows o w)) (judge w)) (may_touch b)
  operation-sees x reply true e w w' t t' r =
      said_same x reply w w' t t' r (judge w) refl ∙ ap (λ (v : Verdict). said x (reply (shows o w')) v) (judge-sees w w' t t' r)
  operation-sees x reply false e w w' t t' r =
      said-refused x (reply (shows o w)) (reply (shows o w')) (judge w) (never-passes e w t)
      ∙ ap (λ (v : Verdict). said x (reply (shows o w')) v)
      (judged-refused p us w w' o (t.0 ∙ sym t'.0) (never-passes e w t) (never-passes e w' t'))
