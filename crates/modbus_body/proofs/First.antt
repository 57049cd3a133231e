-- The first byte of a reply says what it is: a good one begins with the function, which is below 80h, and an exception's has its top bit
-- set. Assumes nothing.
use mathlib.Core.Bool.{true, false, false≢true}
use mathlib.Core.List.{List, [], ◌∷◌}
use mathlib.Core.Path.{◌≡◌, refl, sym, ap, subst, ◌∙◌}
use Prim.Native.Nat.{ℕ, suc, ◌≤◌}
use native.Mathlib.Omega.{arith}
use borrow.Author.Tests.{eqb-true, le-ltb}
use lib.Bits.{bit_or, or_add_and, and_le_l}
use lib.Dec.{eqb, ltb}
use lib.ListN.{length, get_or, take}
use Rattle.table_registers.specs.declared.Verdict.{Verdict}
use Rattle.table_registers.specs.declared.Verdict.TheVariants.{Granted, Lacking, Unfit}
use Rattle.table_registers.specs.Operation.{Operation, Judge, read_words, read_bits, write_words, fill_words, write_bits, mask_word, shows}
use Rattle.station.specs.Site.{Asked, Says, good, error, is_good, said, done}
use Rattle.modbus_body.specs.Body.{Function, read_coils, read_registers, write_coil, write_register, write_coils, write_registers, mask_register, functions, function, exception, exceptions, reply_body, reply_to, body_asks}
use Rattle.modbus_body.proofs.Rows.{Row, asked-all}

-- a reply is not empty, and its first byte is below 80h where it is good
pub record Tells (b : List ℕ) (says : Says) : Type 0 where
  pub some : 1 ≤ length (reply_to b says)
  pub first : ltb (get_or (reply_to b says) 0 0) 0x80 ≡ is_good says

top_bit : (f : ℕ) → ltb (bit_or f 0x80) 0x80 ≡ false
top_bit f = le-ltb (bit_or f 0x80) 0x80 (omega (arith, or_add_and f 0x80, and_le_l f 0x80))

pub tells-exception : (b : List ℕ) (e : ℕ) → Tells b (error e)
unfolding reply_to exception
tells-exception b e = record { some = omega arith; first = top_bit (function b) }

-- a message that begins with the function
abbrev pub Begins : List ℕ → List ℕ → Type 0
Begins b m = (t : List ℕ) × (m ≡ function b ∷ t)

pub tells-good : (b m : List ℕ) → ltb (function b) 0x80 ≡ true → Begins b m → Tells b (good m)
unfolding reply_to
tells-good b m e (t, h) = subst (λ (l : List ℕ). Tells b (good l)) (sym h) (record { some = omega arith; first = e })

-- a body that names a function has a first byte, and so has what is taken of it
pub begins-taken : (n : ℕ) (b : List ℕ) → eqb (function b) 0 ≡ false → Begins b (take (suc n) b)
begins-taken n [] h = absurd (false≢true (sym h))
begins-taken n (x ∷ b) h = (take n b, refl)

pub begins-body : (b : List ℕ) → eqb (function b) 0 ≡ false → Begins b b
begins-body [] h = absurd (false≢true (sym h))
begins-body (x ∷ b) h = (b, refl)

pub begins-reply : (b shown : List ℕ) (o : Operation) → eqb (function b) 0 ≡ false → Begins b (reply_body b o shown)
unfolding reply_body
begins-reply b shown (read_words r k n) h = (_, refl)
begins-reply b shown (read_bits cs) h = (_, refl)
begins-reply b shown (write_words r k vs) h = begins-taken 4 b h
begins-reply b shown (fill_words k n v) h = begins-taken 4 b h
begins-reply b shown (write_bits cs vs) h = begins-taken 4 b h
begins-reply b shown (mask_word k a o) h = begins-taken 6 b h

module _ (judge : Judge) (w b : List ℕ) where
  abbrev Told : Asked → Type 0
  Told a = Tells b (done exceptions judge w a).says

  -- the seven functions' bytes are above 0 and below 80h
  row : (f : Function) → eqb f.code 0 ≡ false → ltb f.code 0x80 ≡ true → Row Told b f
  unfolding done said
  row f z l is fits = go (judge w (f.operation b))
    where
      code : function b ≡ f.code
      code = eqb-true _ _ is

      go : (v : Verdict) → Tells b (said exceptions (reply_body b (f.operation b) (shows (f.operation b) w)) v)
      go Granted = tells-good b _ (ap (λ (k : ℕ). ltb k 0x80) code ∙ l) (begins-reply b _ (f.operation b) (ap (λ (k : ℕ). eqb k 0) code ∙ z))
      go (Lacking i) = tells-exception b 2
      go Unfit = tells-exception b 3

  pub tells-answered : Told (body_asks functions b)
  unfolding done
  tells-answered =
      asked-all Told b functions (tells-exception b 1) (tells-exception b 3)
      (row read_coils refl refl, (row read_registers refl refl, (row write_coil refl refl, (row write_register refl refl, (row write_coils refl refl, (row write_registers refl refl, (row mask_register refl refl, tt)))))))
