-- What function 08 says of a body, by what is wrong with it and by its sub-function. Assumes nothing.
use mathlib.Core.Bool.{true, false}
use mathlib.Core.List.{List, [], ◌∷◌, ◌++◌}
use mathlib.Core.Path.{◌≡◌, sym, ap, ◌∙◌}
use Prim.Native.Nat.{ℕ}
use native.Mathlib.Omega.{arith}
use borrow.Author.Tests.{eqb-true}
use lib.Dec.{eqb, leb}
use lib.ListN.{length, take}
use lib.Seq.{take_all}
use Rattle.rules.specs.Choice.{pick, either}
use Rattle.rules.specs.Given.{gives, refused}
use Rattle.rules.specs.Tests.{◌unless◌, first}
use Rattle.rules.proofs.Choose.{pick_yes, pick_no, pick_all}
use Rattle.rules.proofs.Tests.{first-refused, first-passed, passed}
use Rattle.table_registers.specs.Operation.{Judge}
use Rattle.station.specs.Site.{Asked, wrong, tells, done}
use Rattle.modbus_body.specs.Bytes.{word_bytes}
use Rattle.modbus_body.specs.Body.{exceptions, exception, reply_to}
use Rattle.modbus_counters.specs.Diagnosis.{sub, datum, is_sub, diagnosis_tests, count_at, diagnosed}
use Rattle.modbus_counters.specs.declared.Counters.{Counters}

module _ (c : Counters) (body : List ℕ) (judge : Judge) (words : List ℕ) where
  abbrev reply : Asked → List ℕ
  reply a = reply_to body (done exceptions judge words a).says

  abbrev none : Type 0
  none = first refused (diagnosis_tests body) (gives 0) ≡ gives 0

  pub told-wrong : (e : ℕ) → first refused (diagnosis_tests body) (gives 0) ≡ refused e → reply (diagnosed c body) ≡ exception body e
  unfolding diagnosed done reply_to
  told-wrong e h = ap reply (first-refused (diagnosis_tests body) 0 e h wrong _)

  -- the body has five bytes where nothing is wrong
  five : none → length body ≡ 5
  five h =
      let known = 1 unless is_sub (sub body) in
      let word = 3 unless eqb (length body) 5 in
      let nought = 3 unless either (eqb (sub body) 0x00) (eqb (datum body) 0) in
      let one = passed 3 (leb 3 (length body)) (known ∷ word ∷ nought ∷ []) 0 0 h in
      let two = passed 1 (is_sub (sub body)) (word ∷ nought ∷ []) 0 0 one.1 in
      eqb-true _ _ (passed 3 (eqb (length body) 5) (nought ∷ []) 0 0 two.1).0

  pub told-echo : none → leb (sub body) 0x0A ≡ true → reply (diagnosed c body) ≡ take 5 body
  unfolding diagnosed done reply_to
  told-echo h e =
      ap reply (first-passed (diagnosis_tests body) 0 0 h wrong _) ∙ pick_yes (leb (sub body) 0x0A) _ _ e
      ∙ sym (take_all 5 body (omega (arith, five h)))

  pub told-count : none → leb (sub body) 0x0A ≡ false → reply (diagnosed c body) ≡ take 3 body ++ word_bytes (count_at (sub body) c)
  unfolding diagnosed done reply_to
  told-count h e = ap reply (first-passed (diagnosis_tests body) 0 0 h wrong _) ∙ pick_no (leb (sub body) 0x0A) _ _ e

-- what holds of every exception, and of what five bytes get, holds of whatever a body gets
pub diagnosed-all : (P : Asked → Type 0) (c : Counters) (body : List ℕ) → ((e : ℕ) → P (wrong e))
    → (length body ≡ 5 → P (tells (pick (leb (sub body) 0x0A) body (take 3 body ++ word_bytes (count_at (sub body) c))))) → P (diagnosed c body)
unfolding diagnosed
diagnosed-all P c body e t =
    pick_all P (leb 3 (length body)) _ _
    (λ _. pick_all P (is_sub (sub body)) _ _
    (λ _. pick_all P (eqb (length body) 5) _ _
    (λ n. pick_all P (either (eqb (sub body) 0x00) (eqb (datum body) 0)) _ _ (λ _. t (eqb-true _ _ n)) (λ _. e 3)) (λ _. e 3)) (λ _. e 1)) (λ _. e 3)
