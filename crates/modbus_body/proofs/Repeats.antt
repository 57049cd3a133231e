-- A reply that begins with one of the functions that write one coil or one word is the body again: it is a good one, and only a body that
-- is repeated to its end fits these functions. Assumes nothing.
use mathlib.Core.Bool.{true, false, false≢true}
use mathlib.Core.List.{List}
use mathlib.Core.Path.{◌≡◌, refl, sym, ap, ◌∙◌}
use Prim.Native.Nat.{ℕ, ◌≤◌}
use native.Mathlib.Omega.{arith}
use borrow.Author.Tests.{eqb-true, ne_eqb, ltb-false}
use lib.Dec.{eqb}
use lib.ListN.{length, get_or, take}
use lib.Seq.{take_all}
use Rattle.rules.proofs.Choose.{both_left}
use Rattle.table_registers.specs.declared.Verdict.{Verdict}
use Rattle.table_registers.specs.declared.Verdict.TheVariants.{Granted, Lacking, Unfit}
use Rattle.table_registers.specs.Operation.{Judge, shows}
use Rattle.station.specs.Site.{Asked, Says, good, error, said, done}
use Rattle.modbus_body.specs.Body.{Function, read_coils, read_registers, write_coil, write_register, write_coils, write_registers, mask_register, repeats_all, functions, function, exceptions, good_coil, reply_body, reply_to, body_asks}
use Rattle.modbus_body.proofs.First.{Begins, begins-reply, tells-exception}
use Rattle.modbus_body.proofs.Rows.{Row, asked-all}

abbrev pub Repeats : List ℕ → Says → Type 0
Repeats b says = repeats_all (get_or (reply_to b says) 0 0) ≡ true → reply_to b says ≡ b

-- an exception's first byte is none of the three
not-above : (k : ℕ) → 0x80 ≤ k → repeats_all k ≡ false
not-above k h = rw (ne_eqb k 0x05 (λ e. omega (arith, h, e)), ne_eqb k 0x06 (λ e. omega (arith, h, e)), ne_eqb k 0x16 (λ e. omega (arith, h, e)))

pub repeats-exception : (b : List ℕ) (e : ℕ) → Repeats b (error e)
repeats-exception b e h =
    let k : ℕ = get_or (reply_to b (error e)) 0 0 in
    absurd (false≢true (sym (not-above k (ltb-false k 0x80 (tells-exception b e).first)) ∙ h))

-- another function's good reply begins with that function
pub repeats-other : (b m : List ℕ) → repeats_all (function b) ≡ false → Begins b m → Repeats b (good m)
unfolding reply_to
repeats-other b m n (t, q) h = absurd (false≢true (sym n ∙ ap (λ (l : List ℕ). repeats_all (get_or l 0 0)) (sym q) ∙ h))

module _ (judge : Judge) (w b : List ℕ) where
  abbrev Repeated : Asked → Type 0
  Repeated a = Repeats b (done exceptions judge w a).says

  other : (f : Function) → eqb f.code 0 ≡ false → repeats_all f.code ≡ false → Row Repeated b f
  unfolding done said
  other f z n is fits = go (judge w (f.operation b))
    where
      code : function b ≡ f.code
      code = eqb-true _ _ is

      go : (v : Verdict) → Repeats b (said exceptions (reply_body b (f.operation b) (shows (f.operation b) w)) v)
      go Granted = repeats-other b _ (ap repeats_all code ∙ n) (begins-reply b _ (f.operation b) (ap (λ (k : ℕ). eqb k 0) code ∙ z))
      go (Lacking i) = repeats-exception b 2
      go Unfit = repeats-exception b 3

  -- what fits has as many bytes as are repeated
  whole : (f : Function) (n : ℕ) → (f.fits b ≡ true → length b ≡ n) → reply_body b (f.operation b) (shows (f.operation b) w) ≡ take n b → Row Repeated b f
  unfolding done said reply_to
  whole f n long e is fits = go (judge w (f.operation b))
    where
      go : (v : Verdict) → Repeats b (said exceptions (reply_body b (f.operation b) (shows (f.operation b) w)) v)
      go Granted = λ _. e ∙ take_all n b (omega (arith, long fits))
      go (Lacking i) = repeats-exception b 2
      go Unfit = repeats-exception b 3

  pub repeats-answered : Repeated (body_asks functions b)
  unfolding done reply_body good_coil
  repeats-answered =
      asked-all Repeated b functions (repeats-exception b 1) (repeats-exception b 3) (
        other read_coils refl refl,
        (
          other read_registers refl refl,
          (
            whole write_coil 5 (λ h. eqb-true (length b) 5 (both_left _ _ h)) refl,
            (
              whole write_register 5 (eqb-true (length b) 5) refl,
              (other write_coils refl refl, (other write_registers refl refl, (whole mask_register 7 (eqb-true (length b) 7) refl, tt))),
            ),
          ),
        ),
      )
