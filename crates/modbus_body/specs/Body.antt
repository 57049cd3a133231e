-- The body of a Modbus request, the function byte and its data, and what answers it (RULES B6 to B12, B14): exception 01, then 03, then 02.
-- Assumes nothing.
use Rattle.std.specs.Prelude.{ℕ, ◌+◌, ◌*◌, List, [], ◌∷◌, Bool, eqb, length, get_or, take, drop}
use Rattle.std.specs.Int.Bits.{bit_or}
use Rattle.rules.specs.Choice.{pick, both, either, between}
use Rattle.rules.specs.Tests.{◌unless◌, first}
use Rattle.table_addresses.specs.Areas.{coil_cell}
use Rattle.table_addresses.specs.declared.Area.TheVariants.{Registers}
use Rattle.table_registers.specs.Table.{up_from}
use Rattle.table_registers.specs.Bits.{bits_from}
use Rattle.table_registers.specs.Operation.{Operation, read_words, read_bits, write_words, fill_words, write_bits, mask_word, words_of_bytes, Judge}
use Rattle.station.specs.Site.{Asked, wrong, asks, Says, good, error, Done, Errors, done}
use Rattle.modbus_body.specs.Bytes.{word_at, bytes_of_words, bytes_for, packed, counted}

-- ---- the parts of a body

abbrev pub function : List ℕ → ℕ
function body = get_or body 0 0

-- the address, and after it the quantity or the value
abbrev pub address : List ℕ → ℕ
address body = word_at body 1

abbrev pub quantity : List ℕ → ℕ
quantity body = word_at body 3

-- an address and a quantity from 1 to a limit
unfoldable pub good_read : ℕ → List ℕ → Bool
good_read limit body = both (eqb (length body) 5) (between 1 limit (quantity body))

-- an address, a quantity from 1 to a limit, the count of bytes that it calls for, and as many bytes
unfoldable pub good_write : ℕ → ℕ → List ℕ → Bool
good_write limit bytes body = both (between 1 limit (quantity body)) (both (eqb (get_or body 5 0) bytes) (eqb (length body) (6 + bytes)))

-- an address, and 0000h or FF00h
unfoldable pub good_coil : List ℕ → Bool
good_coil body = both (eqb (length body) 5) (either (eqb (quantity body) 0) (eqb (quantity body) 0xFF00))

-- the cells of a run of coils
abbrev pub coils : List ℕ → ℕ → List ℕ
coils body n = up_from (coil_cell (address body)) n

-- ---- the reply's body

-- the function byte with its top bit set, and the exception
unfoldable pub exception : List ℕ → ℕ → List ℕ
exception body e = bit_or (function body) 0x80 ∷ e ∷ []

-- a read shows what it read; a write repeats the function, the address and the value or quantity; a mask write repeats all
unfoldable pub reply_body : List ℕ → Operation → List ℕ → List ℕ
reply_body body (read_words r k n) shown = function body ∷ counted (bytes_of_words shown)
reply_body body (read_bits cs) shown = function body ∷ counted (packed (bytes_for (length shown)) shown)
reply_body body (write_words r k vs) shown = take 5 body
reply_body body (fill_words k n v) shown = take 5 body
reply_body body (write_bits cs vs) shown = take 5 body
reply_body body (mask_word k a o) shown = take 7 body

unfoldable pub reply_to : List ℕ → Says → List ℕ
reply_to body (good b) = b
reply_to body (error e) = exception body e

-- ---- the functions

-- a function: its byte, whether a body's length, byte count and quantity are right, and the operation that such a body asks for
pub record Function : Type 0 where
  pub code : ℕ
  pub fits : List ℕ → Bool
  pub operation : List ℕ → Operation

abbrev row : ℕ → (List ℕ → Bool) → (List ℕ → Operation) → Function
row code fits operation = record { code = code; fits = fits; operation = operation }

-- 1 to 2,000 coils, 1 to 125 words
abbrev pub read_coils : Function
read_coils = row 0x01 (good_read 2000) (λ b. read_bits (coils b (quantity b)))

abbrev pub read_registers : Function
read_registers = row 0x03 (good_read 125) (λ b. read_words Registers (address b) (quantity b))

-- one coil, one word
abbrev pub write_coil : Function
write_coil = row 0x05 good_coil (λ b. write_bits (coils b 1) (eqb (quantity b) 0xFF00 ∷ []))

abbrev pub write_register : Function
write_register = row 0x06 (λ b. eqb (length b) 5) (λ b. write_words Registers (address b) (quantity b ∷ []))

-- 1 to 1,968 coils, 1 to 123 words
abbrev pub write_coils : Function
write_coils = row 0x0F (λ b. good_write 1968 (bytes_for (quantity b)) b) (λ b. write_bits (coils b (quantity b)) (bits_from (drop 6 b) 0 (quantity b)))

abbrev pub write_registers : Function
write_registers = row 0x10 (λ b. good_write 123 (2 * quantity b) b) (λ b. write_words Registers (address b) (words_of_bytes (quantity b) (drop 6 b)))

-- an and-mask and an or-mask
abbrev pub mask_register : Function
mask_register = row 0x16 (λ b. eqb (length b) 7) (λ b. mask_word (address b) (word_at b 3) (word_at b 5))

abbrev pub writes : List Function
writes = write_coil ∷ write_register ∷ write_coils ∷ write_registers ∷ mask_register ∷ []

-- those that write one coil or one word: a good reply to one of them is the whole body again
abbrev pub repeats_all : ℕ → Bool
repeats_all f = either (eqb f 0x05) (either (eqb f 0x06) (eqb f 0x16))

abbrev pub functions : List Function
functions = read_coils ∷ read_registers ∷ writes

-- ---- what a body asks, and what answers it

-- exception 03 where the body doesn't fit the function
unfoldable pub asks_by : Function → List ℕ → Asked
asks_by f body = first wrong ((3 unless f.fits body) ∷ []) (asks (f.operation body) (reply_body body (f.operation body)))

-- exception 01 for a function that none of these is
unfoldable pub body_asks : List Function → List ℕ → Asked
body_asks [] body = wrong 1
body_asks (f ∷ fs) body = pick (eqb (function body) f.code) (asks_by f body) (body_asks fs body)

-- exception 02: a word or coil that is not there, or lacks what is needed; 03: a write that the profile doesn't take
abbrev pub exceptions : Errors
exceptions = record { address = 2; value = 3 }

-- exception 01, then 03, then 02, then what the profile refuses, 03
abbrev pub answered : Judge → List ℕ → List ℕ → Done
answered judge words body = done exceptions judge words (body_asks functions body)
