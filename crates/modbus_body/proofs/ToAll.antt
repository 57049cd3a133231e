-- Of a body that was sent to all, the five functions that write say all: a read is not heeded, and they say nothing of one. Assumes nothing.
use Prim.Native.Nat.{ℕ}
use mathlib.Core.Bool.{Bool, true, false}
use mathlib.Core.List.{List}
use mathlib.Core.Logic.{◌⊎◌, inl, inr}
use mathlib.Core.Path.{◌≡◌, refl, sym, ap, ◌∙◌}
use native.Mathlib.Omega.{arith}
use borrow.Author.Tests.{eqb-true}
use lib.Dec.{eqb, ltb}
use Rattle.table_registers.specs.Operation.{need, Judge}
use Rattle.station.specs.Site as site
use Rattle.station.specs.Site.{Asked, wrong, good, error, is_good, Done, done}
use Rattle.station.specs.Outcome.{Outcome, silent, carried}
use Rattle.station.specs.Station.{to_all}
use Rattle.station.proofs.Calls.{all_read, all-error, all_done}
use Rattle.station.proofs.Held.{error-keeps}
use Rattle.rules.proofs.Choose.{pick_all}
use Rattle.modbus_body.specs.Body.{function, Function, read_coils, read_registers, write_coil, write_register, write_coils, write_registers, mask_register, writes, functions, asks_by, body_asks, exceptions}

-- ---- reads

read-silent : (f : Function) (words room body : List ℕ) (d : Done) → need (f.operation body) ≡ 1 → to_all words room (asks_by f body) d ≡ silent words room 12
unfolding asks_by
read-silent f words room body d n = go (f.fits body) refl
  where
    go : (b : Bool) → f.fits body ≡ b → to_all words room (asks_by f body) d ≡ silent words room 12
    go true e = all_read words room (asks_by f body) d (rw (e, n))
    go false e = all_read words room (asks_by f body) d (rw e)

-- none of the five is 01 or 03
no_write : (words room body : List ℕ) (k : ℕ) → function body ≡ k → (k ≡ 1) ⊎ (k ≡ 3) → (d : Done) → to_all words room (body_asks writes body) d ≡ silent words room 12
unfolding body_asks
no_write words room body k e (inl h) d = all_read words room (body_asks writes body) d (rw (e ∙ h))
no_write words room body k e (inr h) d = all_read words room (body_asks writes body) d (rw (e ∙ h))

module _ (judge : Judge) (words room body : List ℕ) where
  abbrev all : Asked → Outcome
  all a = to_all words room a (done exceptions judge words a)

  pub writes-only : all (body_asks functions body) ≡ all (body_asks writes body)
  unfolding body_asks
  writes-only = go (eqb (function body) 1) refl (eqb (function body) 3) refl
    where
      go : (b : Bool) → eqb (function body) 1 ≡ b → (c : Bool) → eqb (function body) 3 ≡ c → all (body_asks functions body) ≡ all (body_asks writes body)
      go true e c f =
          ap all (rw e) ∙ read-silent read_coils words room body _ refl ∙ sym (no_write words room body 1 (eqb-true _ _ e) (inl refl) _)
      go false e true f =
          ap all (rw (e, f)) ∙ read-silent read_registers words room body _ refl ∙ sym (no_write words room body 3 (eqb-true _ _ f) (inr refl) _)
      go false e false f = ap all (rw (e, f))

-- ---- writes

-- what the five ask is wrong, or writes
abbrev WriteAsked : Asked → Type 0
WriteAsked a = ((n : ℕ) × (a ≡ wrong n)) ⊎ (site.writes a ≡ true)

asks_write : (f : Function) (body : List ℕ) → ltb 1 (need (f.operation body)) ≡ true → WriteAsked (asks_by f body)
unfolding asks_by
asks_write f body n = go (f.fits body) refl
  where
    go : (b : Bool) → f.fits body ≡ b → WriteAsked (asks_by f body)
    go true e = inr (rw (e, n))
    go false e = inl (3, rw e)

writes-asked : (body : List ℕ) → WriteAsked (body_asks writes body)
unfolding body_asks
writes-asked body =
    pick_all WriteAsked (eqb (function body) 0x05) _ _ (λ _. asks_write write_coil body refl)
    (λ _. pick_all WriteAsked (eqb (function body) 0x06) _ _ (λ _. asks_write write_register body refl)
    (λ _. pick_all WriteAsked (eqb (function body) 0x0F) _ _ (λ _. asks_write write_coils body refl)
    (λ _. pick_all WriteAsked (eqb (function body) 0x10) _ _ (λ _. asks_write write_registers body refl)
    (λ _. pick_all WriteAsked (eqb (function body) 0x16) _ _ (λ _. asks_write mask_register body refl) (λ _. inl (1, refl))))))

module _ (judge : Judge) (words room body : List ℕ) where
  abbrev left : Asked → Done
  left a = done exceptions judge words a

  -- what got a good reply is carried out
  pub write-good : (t words' : List ℕ) → left (body_asks writes body) ≡ record { says = good t; words = words' } → all judge words room body (body_asks functions body) ≡ carried room words'
  unfolding done
  write-good t words' e = writes-only judge words room body ∙ go (writes-asked body) ∙ ap (λ (d : Done). carried room d.words) e
    where
      go : WriteAsked (body_asks writes body) → all judge words room body (body_asks writes body) ≡ carried room (left (body_asks writes body)).words
      go (inl (n, w)) =
          let says : error n ≡ good t = sym (ap (λ (a : Asked). (left a).says) w) ∙ ap (λ (d : Done). d.says) e in
          let z : ◌≡◌ {A = ℕ} 0 1 = cc in absurd (omega arith)
      go (inr w) = all_done words room (body_asks writes body) (left (body_asks writes body)) w (ap (λ (d : Done). is_good d.says) e)

  -- what got an exception is not
  pub write-error : (n : ℕ) (words' : List ℕ) → left (body_asks writes body) ≡ record { says = error n; words = words' } → all judge words room body (body_asks functions body) ≡ silent words' room 12
  write-error n words' e =
      let stays : words ≡ words' = sym (error-keeps exceptions judge words (body_asks writes body) n (ap (λ (d : Done). d.says) e)) ∙ ap (λ (d : Done). d.words) e in
      writes-only judge words room body ∙ all-error words room (body_asks writes body) (left (body_asks writes body)) (ap (λ (d : Done). is_good d.says) e)
      ∙ ap (λ (w : List ℕ). silent w room 12) stays
