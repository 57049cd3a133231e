-- Every reply: its check, its length, and that an exception leaves every word as it was and is told by its first byte. Assumes nothing.
use mathlib.Core.Path.{◌≡◌, refl, sym, ap, ◌∙◌}
use mathlib.Core.List.{List, [], ◌∷◌}
use mathlib.Core.Bool.{false, false≢true}
use Prim.Native.Nat.{ℕ, ◌+◌}
use native.Mathlib.Omega.{arith}
use borrow.Author.Tests.{eq-eqb}
use lib.Dec.{ltb}
use lib.ListN.{length, get_or, length-append}
use Rattle.rules.proofs.Choose.{pick_no}
use Rattle.checks_lrc.specs.Lrc.{lrc_of}
use Rattle.checks_lrc.proofs.Closing.{lrc-closes}
use Rattle.checks_crc.specs.Crc.{crc_bytes}
use Rattle.checks_crc.proofs.Closing.{right-crc-of}
use Rattle.station.specs.Site.{Says, good, error, is_good}
use Rattle.station.proofs.Held.{error-keeps}
use Rattle.modbus_body.specs.Body.{function, exceptions, reply_to}
use Rattle.modbus_body.proofs.First.{tells-exception}
use Rattle.modbus_counters.specs.Diagnosis.{replied}
use Rattle.modbus_line.specs.Framing.{line_asks, answered}
use Rattle.modbus_line.proofs.Bodies.{tells-line, line_small, eight-keeps}
use Rattle.modbus_ascii.specs.Ascii.{with_lrc}
use Rattle.theorems_modbus.specs.Statements.{RtuReplies, AsciiReplies, ExceptionKeeps, DiagnosisKeeps}
use Rattle.theorems_modbus.proofs.Texts.{text_frame-good, whole_length}

-- ---- the checks of every reply

pub rtu-replies : RtuReplies
rtu-replies c own judge w b =
    let m : List ℕ = reply_to b (answered c judge w b).says in
    record { right = right-crc-of (own ∷ m); short = omega (arith, length-append (own ∷ m) (crc_bytes (own ∷ m)), line_small c judge w b) }

pub ascii-replies : AsciiReplies
ascii-replies c own judge w b =
    let m : List ℕ = reply_to b (answered c judge w b).says in
    let bytes : List ℕ = with_lrc own m in
    let n : length bytes ≡ length m + 2 = omega (arith, length-append (own ∷ m) (lrc_of (own ∷ m) ∷ [])) in
    let small = line_small c judge w b in
    let some = (tells-line c judge w b).some in
    record {
      text = refl;
      right = lrc-closes (own ∷ m);
      shape = text_frame-good bytes (omega arith) (omega arith);
      short = omega (arith, whole_length bytes (omega arith) (omega arith));
    }

-- ---- an exception changes no word

-- what is not good is an error
an-error : (s : Says) → is_good s ≡ false → (n : ℕ) × (s ≡ error n)
an-error (good t) h = absurd (false≢true (sym h))
an-error (error n) h = (n, refl)

pub exception-keeps : ExceptionKeeps
unfolding replied reply_to
exception-keeps c judge w b e h =
    let bad : is_good (answered c judge w b).says ≡ false = sym (tells-line c judge w b).first ∙ ap (λ (l : List ℕ). ltb (get_or l 0 0) 0x80) h ∙ (tells-exception b e).first in
    let told = an-error (answered c judge w b).says bad in
    record { words-stay = error-keeps exceptions judge w (line_asks c b) told.0 told.1; one_more = pick_no (is_good (answered c judge w b).says) _ _ bad }

pub diagnosis-keeps : DiagnosisKeeps
diagnosis-keeps c judge w b f = eight-keeps c judge w b (eq-eqb (function b) 0x08 f)
