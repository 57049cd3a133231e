-- Every request that is written is a frame: its characters are from 20h to 7Eh, and it is no longer than the form allows. Assumes nothing.
use mathlib.Core.Path.{◌≡◌, refl}
use mathlib.Core.List.{List, [], ◌∷◌, ◌++◌}
use mathlib.Core.Bool.{true, false}
use Prim.Native.Nat.{ℕ, zero, suc, ◌+◌, ◌/◌, ◌%◌, ◌≤◌, ◌<◌}
use native.Mathlib.Omega.{arith}
use lib.Dec.{ltb}
use lib.ListN.{length, get_or, drop}
use Rattle.rules.specs.Choice.{pick, between, all_between}
use Rattle.rules.specs.Characters.{digit0, hash, letter_d, letter_r}
use Rattle.rules.proofs.Choose.{both_right}
use Rattle.text_digits.specs.Digits.{digits_in, decimals}
use Rattle.text_hex.specs.Hex.{hex_digit}
use Rattle.mewtocol_frame.specs.Frame.{Roomy, Framed}
use Rattle.mewtocol_frame.specs.declared.Limits.{Limits}
use Rattle.mewtocol_frame.proofs.Sealed.{Plain, plain-none, plain-cons, plain-append, hex_digit-plain, low_first-plain, framed}
use Rattle.mewtocol_commands.specs.Fields.{room}
use Rattle.mewtocol_commands.specs.Rows.{is_letter}
use Rattle.mewtocol_commands.specs.Commands.{entry, Layout, once, counted, with_words, layout, fields_of}
use Rattle.mewtocol_commands.specs.declared.Command.{Command}
use Rattle.mewtocol_commands.specs.declared.Command.TheVariants.{RCS, RCP, RCC, WCS, WCP, WCC, RD, WD, SD}
use Rattle.mewtocol_commands.specs.declared.Field.{Field}
use Rattle.mewtocol_commands.specs.declared.Field.TheVariants.{LetterR, LetterD, Relay, Register, Contact, Value, Word}
use Rattle.mewtocol_asking.specs.Asking.{Asking, ◌for◌, listed_by, numbers_of, says, characters, count_text, filled, ask_text, fit, can_ask}
use Rattle.mewtocol_writer.specs.Writing.{ask_frame, Countable}
use Rattle.mewtocol_writer.proofs.Filled.{has_room}
use Rattle.mewtocol_writer.proofs.Ways.{text-length, text-short, askable}

name-plain : (c : Command) → Plain (entry c).name
unfolding all_between between
name-plain RCS = refl
name-plain RCP = refl
name-plain RCC = refl
name-plain WCS = refl
name-plain WCP = refl
name-plain WCC = refl
name-plain RD = refl
name-plain WD = refl
name-plain SD = refl

name-long : (c : Command) → 2 ≤ length (entry c).name
name-long RCS = omega arith
name-long RCP = omega arith
name-long RCC = omega arith
name-long WCS = omega arith
name-long WCP = omega arith
name-long WCC = omega arith
name-long RD = omega arith
name-long WD = omega arith
name-long SD = omega arith

decimals-plain : (k n : ℕ) → Plain (decimals k n)
unfolding digits_in
decimals-plain zero n = plain-none
decimals-plain (suc k) n =
    plain-append (decimals k (n / 10)) ((48 + n % 10) ∷ []) (decimals-plain k (n / 10)) (plain-cons (48 + n % 10) [] (omega arith) (omega arith) plain-none)

characters-plain : (f : Field) (v : ℕ) → (is_letter f ≡ false → v < room f) → Plain (characters f v)
unfolding characters
characters-plain LetterR v h = plain-cons letter_r [] (omega arith) (omega arith) plain-none
characters-plain LetterD v h = plain-cons letter_d [] (omega arith) (omega arith) plain-none
characters-plain Relay v h = decimals-plain 4 v
characters-plain Register v h = decimals-plain 5 v
characters-plain Contact v h =
    let d = hex_digit-plain (v % 16) (omega arith) in
    plain-append (decimals 3 (v / 16)) (hex_digit (v % 16) ∷ []) (decimals-plain 3 (v / 16)) (plain-cons (hex_digit (v % 16)) [] d.0 d.1 plain-none)
characters-plain Value v h = let small = h refl in plain-cons (digit0 + v) [] (omega arith) (omega arith) plain-none
characters-plain Word v h = low_first-plain v

filled-plain : (fs : List Field) (ns : List ℕ) → fit fs ns ≡ true → Plain (filled fs ns)
unfolding filled fit
filled-plain [] ns h = plain-none
filled-plain (f ∷ fs) ns h =
    let v = get_or ns 0 0 in
    plain-append (characters f v) (filled fs (drop (says f) ns)) (characters-plain f v (has_room f v _ h))
    (filled-plain fs (drop (says f) ns) (both_right (pick (is_letter f) true (ltb v (room f))) _ h))

count-plain : (y : Layout) (n : ℕ) → Countable y n → Plain (count_text y n)
count-plain (once r) n h = plain-none
count-plain (counted r) n h = plain-cons (digit0 + n) [] (omega arith) (omega arith) plain-none
count-plain (with_words r) n h = plain-none

text-plain : (l : Limits) (a : Asking) → can_ask l a ≡ true → Plain (ask_text a)
unfolding ask_text
text-plain l (c for q) can =
    let y = layout (entry c).kind in
    let h = askable l (c for q) can in
    plain-append ((entry c).name ++ count_text y (listed_by q)) (filled (fields_of y (listed_by q)) (numbers_of q))
    (plain-append (entry c).name (count_text y (listed_by q)) (name-plain c) (count-plain y (listed_by q) h.0))
    (filled-plain (fields_of y (listed_by q)) (numbers_of q) h.1)

text-long : (a : Asking) → 2 ≤ length (ask_text a)
text-long (c for q) = omega (arith, text-length c q, name-long c)

pub request-framed : (l : Limits) → Roomy l → (to : ℕ) (a : Asking) → can_ask l a ≡ true → Framed l 8 (ask_frame l.header to a)
unfolding ask_frame
request-framed l roomy to a can = framed l to hash (ask_text a) 8 (omega arith) (omega arith) (text-plain l a can) (omega (arith, text-long a)) (text-short l roomy a can)
