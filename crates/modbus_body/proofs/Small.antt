-- A reply's body has at most 252 bytes. Assumes nothing.
use mathlib.Core.Path.{◌≡◌, refl}
use mathlib.Core.List.{List, map}
use Prim.Native.Nat.{ℕ, ◌≤◌}
use native.Mathlib.Omega.{arith}
use lib.ListN.{length, take, drop, length-take, length-map}
use Rattle.table_addresses.specs.Areas.{coil_cell}
use Rattle.table_registers.specs.Bits.{cell_at}
use Rattle.table_registers.specs.declared.Verdict.{Verdict}
use Rattle.table_registers.specs.declared.Verdict.TheVariants.{Granted, Lacking, Unfit}
use Rattle.table_registers.specs.Operation.{Operation, Judge, read_words, read_bits, shows}
use Rattle.table_registers.proofs.Lacking.{up_from-length}
use Rattle.station.specs.Site.{Asked, wrong, asks, said, done}
use Rattle.modbus_body.specs.Bytes.{bytes_for}
use Rattle.modbus_body.specs.Body.{Function, read_coils, read_registers, write_coil, write_register, write_coils, write_registers, mask_register, functions, address, quantity, coils, exception, exceptions, reply_body, reply_to, answered}
use Rattle.table_addresses.specs.declared.Area.TheVariants.{Registers}
use Rattle.modbus_body.proofs.Rows.{Row, Rows, asked-all}
use Rattle.modbus_body.proofs.Shape.{read-limits}
use Rattle.modbus_body.proofs.Packed.{packed-length, bytes_of_words-length}

-- what a body asks, over every table, is answered in so many bytes
abbrev Bound : Judge → List ℕ → Asked → Type 0
Bound judge b a = (w : List ℕ) → length (reply_to b (done exceptions judge w a).says) ≤ 252

wrong-bound : (judge : Judge) (b : List ℕ) (n : ℕ) → Bound judge b (wrong n)
unfolding done reply_to exception
wrong-bound judge b n w = omega arith

asks-bound : (judge : Judge) (b : List ℕ) (o : Operation) → ((w : List ℕ) → length (reply_body b o (shows o w)) ≤ 252) → Bound judge b (asks o (reply_body b o))
unfolding done said reply_to exception
asks-bound judge b o h w = go (judge w o)
  where
    go : (v : Verdict) → length (reply_to b (said exceptions (reply_body b o (shows o w)) v)) ≤ 252
    go Granted = h w
    go (Lacking i) = omega arith
    go Unfit = omega arith

module _ (judge : Judge) (b : List ℕ) where
  coils-short : Row (Bound judge b) b read_coils
  unfolding reply_body shows
  coils-short is e =
      let cs : List ℕ = coils b (quantity b) in
      asks-bound judge b (read_bits cs)
      (λ w. omega (arith, (read-limits 2000 b e).1, packed-length (bytes_for (length (map (cell_at w) cs))) (map (cell_at w) cs), length-map cs (cell_at w), up_from-length (coil_cell (address b)) (quantity b)))

  registers-short : Row (Bound judge b) b read_registers
  unfolding reply_body shows
  registers-short is e =
      asks-bound judge b (read_words Registers (address b) (quantity b))
      (λ w. omega (arith, (read-limits 125 b e).1, bytes_of_words-length (take (quantity b) (drop (address b) w)), length-take (quantity b) (drop (address b) w)))

  -- a write repeats a few bytes
  write-short : (f : Function) (n : ℕ) → n ≤ 7 → ((w : List ℕ) → reply_body b (f.operation b) (shows (f.operation b) w) ≡ take n b) → Row (Bound judge b) b f
  write-short f n few e is fits = asks-bound judge b (f.operation b) (λ w. rw (e w) (omega (arith, length-take n b)))

  functions-short : Rows (Bound judge b) b functions
  unfolding reply_body
  functions-short = (
    coils-short,
    (
      registers-short,
      (
        write-short write_coil 5 (omega arith) (λ w. refl),
        (
          write-short write_register 5 (omega arith) (λ w. refl),
          (write-short write_coils 5 (omega arith) (λ w. refl), (write-short write_registers 5 (omega arith) (λ w. refl), (write-short mask_register 7 (omega arith) (λ w. refl), tt))),
        ),
      ),
    ),
  )

-- no reply's body is longer
pub answered-small : (judge : Judge) (w b : List ℕ) → length (reply_to b (answered judge w b).says) ≤ 252
answered-small judge w b = asked-all (Bound judge b) b functions (wrong-bound judge b 1) (wrong-bound judge b 3) (functions-short judge b) w
