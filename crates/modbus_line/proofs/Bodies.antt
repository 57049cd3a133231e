-- What holds of the seven functions and of function 08 holds of every body: the reply's first byte and its length, when it is the body again, and that
-- 08 to all is not heeded. Assumes nothing.
use mathlib.Core.Bool.{Bool, true, false}
use mathlib.Core.List.{List, [], ◌∷◌, ◌++◌, append_assoc}
use mathlib.Core.Path.{◌≡◌, refl, sym, ap, ◌∙◌}
use Prim.Native.Nat.{ℕ, ◌+◌, ◌≤◌}
use native.Mathlib.Omega.{arith}
use borrow.Author.Tests.{eqb-true}
use lib.Dec.{eqb, ltb, leb}
use lib.ListN.{length, get_or, take, drop, length-take, length-append}
use lib.Seq.{get_or_at, length-take-le}
use Rattle.rules.specs.Choice.{pick}
use Rattle.rules.proofs.Choose.{pick_yes, pick_no, pick_all}
use Rattle.text_rooms.specs.Room.{overwrite, Put}
use Rattle.table_registers.specs.Operation.{Judge}
use Rattle.station.specs.Site.{Asked, writes, Done, done}
use Rattle.station.specs.Outcome.{Served}
use Rattle.station.specs.Station.{to_all}
use Rattle.station.proofs.Calls.{all_read}
use Rattle.station.proofs.Done.{served}
use Rattle.modbus_body.specs.Bytes.{word_bytes}
use Rattle.modbus_body.specs.Body as body
use Rattle.modbus_body.specs.Body.{function, repeats_all, functions, body_asks, exception, exceptions, reply_to}
use Rattle.modbus_body.proofs.First.{Tells, Begins, tells-exception, tells-good, begins-taken, begins-body, tells-answered}
use Rattle.modbus_body.proofs.Repeats.{Repeats, repeats-exception, repeats-other, repeats-answered}
use Rattle.modbus_body.proofs.Small.{answered-small}
use Rattle.modbus_counters.specs.Diagnosis.{sub, count_at, diagnosed}
use Rattle.modbus_counters.specs.declared.Counters.{Counters}
use Rattle.modbus_counters.proofs.Told.{diagnosed-all}
use Rattle.modbus_line.specs.Framing.{line_asks, answered}

module _ (c : Counters) (judge : Judge) (w b : List ℕ) where
  -- 08 is one case, the seven the other
  lines-all : (P : Asked → Type 0) → (function b ≡ 0x08 → P (diagnosed c b)) → P (body_asks functions b) → P (line_asks c b)
  unfolding line_asks
  lines-all P eight seven = pick_all P (eqb (function b) 0x08) _ _ (λ is. eight (eqb-true (function b) 0x08 is)) (λ _. seven)

  -- ---- a reply's first byte, and its length

  begins-joined : (m t : List ℕ) → Begins b m → Begins b (m ++ t)
  begins-joined m t (r, e) = (r ++ t, ap (λ (l : List ℕ). l ++ t) e)

  abbrev Told : Asked → Type 0
  Told a = Tells b (done exceptions judge w a).says

  -- what 08 tells begins with it
  begins-told : function b ≡ 0x08 → Begins b (pick (leb (sub b) 0x0A) b (take 3 b ++ word_bytes (count_at (sub b) c)))
  begins-told f =
      let named : eqb (function b) 0 ≡ false = ap (λ (k : ℕ). eqb k 0) f in
      pick_all (Begins b) (leb (sub b) 0x0A) _ _ (λ _. begins-body b named) (λ _. begins-joined _ _ (begins-taken 2 b named))

  pub tells-line : Told (line_asks c b)
  unfolding done
  tells-line =
      lines-all Told
      (λ f. diagnosed-all Told c b (tells-exception b) (λ n. tells-good b _ (ap (λ (k : ℕ). ltb k 0x80) f) (begins-told f)))
      (tells-answered judge w b)

  abbrev Repeated : Asked → Type 0
  Repeated a = Repeats b (done exceptions judge w a).says

  pub repeats-line : Repeated (line_asks c b)
  unfolding done
  repeats-line =
      lines-all Repeated
      (λ f. diagnosed-all Repeated c b (repeats-exception b) (λ n. repeats-other b _ (ap repeats_all f) (begins-told f)))
      (repeats-answered judge w b)

  abbrev Small : Asked → Type 0
  Small a = length (reply_to b (done exceptions judge w a).says) ≤ 252

  pub line_small : Small (line_asks c b)
  unfolding done reply_to exception
  line_small =
      lines-all Small
      (λ f. diagnosed-all Small c b (λ e. omega arith)
      (λ n. pick_all (λ (l : List ℕ). length l ≤ 252) (leb (sub b) 0x0A) _ _ (λ _. omega arith)
      (λ _. omega (arith, length-append (take 3 b) (word_bytes (count_at (sub b) c)), length-take 3 b))))
      (answered-small judge w b)

  -- ---- to all

  -- 08 is not heeded, and the seven don't know it
  pub line-to-all : (room : List ℕ) → to_all w room (line_asks c b) (answered c judge w b) ≡ to_all w room (body_asks functions b) (body.answered judge w b)
  unfolding line_asks body_asks
  line-to-all room = go (eqb (function b) 0x08) refl
    where
      go : (t : Bool) → eqb (function b) 0x08 ≡ t → to_all w room (line_asks c b) (answered c judge w b) ≡ to_all w room (body_asks functions b) (body.answered judge w b)
      go true e =
          let f : function b ≡ 0x08 = eqb-true (function b) 0x08 e in
          all_read w room (line_asks c b) (answered c judge w b) (ap writes (pick_yes (eqb (function b) 0x08) _ _ e) ∙ diagnosed-all (λ a. writes a ≡ false) c b (λ _. refl) (λ _. refl))
          ∙ sym (all_read w room (body_asks functions b) (body.answered judge w b) (rw f))
      go false e = ap (λ (a : Asked). to_all w room a (done exceptions judge w a)) (pick_no (eqb (function b) 0x08) _ _ e)

module _ (c : Counters) (judge : Judge) (w b : List ℕ) where
  -- 08 leaves every word
  eight-leaves : done exceptions judge w (diagnosed c b) ≡ record { says = (done exceptions judge w (diagnosed c b)).says; words = w }
  unfolding done
  eight-leaves = diagnosed-all (λ a. done exceptions judge w a ≡ record { says = (done exceptions judge w a).says; words = w }) c b (λ _. refl) (λ _. refl)

  -- a body is 08's, or one of the others'
  pub eight : {room room' : List ℕ} {at k : ℕ} → eqb (function b) 0x08 ≡ true → Put room at (reply_to b (done exceptions judge w (diagnosed c b)).says) k room'
      → Served (reply_to b) (answered c judge w b) room at k w room'
  unfolding line_asks
  eight e p = served (ap (done exceptions judge w) (pick_yes (eqb (function b) 0x08) _ _ e) ∙ eight-leaves) p refl

  pub eight-keeps : eqb (function b) 0x08 ≡ true → (answered c judge w b).words ≡ w
  unfolding line_asks
  eight-keeps e = ap (λ (a : Asked). (done exceptions judge w a).words) (pick_yes (eqb (function b) 0x08) _ _ e) ∙ ap (λ (d : Done). d.words) eight-leaves

  pub seven : eqb (function b) 0x08 ≡ false → answered c judge w b ≡ body.answered judge w b
  unfolding line_asks
  seven e = ap (done exceptions judge w) (pick_no (eqb (function b) 0x08) _ _ e)

-- the first byte of a message in its room
pub first-in-room : (room m : List ℕ) (at : ℕ) → at ≤ length room → 1 ≤ length m → get_or (overwrite room at m) at 0 ≡ get_or m 0 0
unfolding overwrite
first-in-room room [] at h n = absurd (omega arith)
first-in-room room (x ∷ m) at h n =
    ap (λ (l : List ℕ). get_or l at 0) (append_assoc (take at room) (x ∷ m) (drop (at + length (x ∷ m)) room))
    ∙ get_or_at (take at room) x (m ++ drop (at + length (x ∷ m)) room) 0 at (length-take-le at room h)
