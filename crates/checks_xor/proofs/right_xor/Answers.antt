-- The two comparisons are those of the definition, cell by cell. Assumes nothing.
use mathlib.Core.List.{List, [], ◌∷◌}
use mathlib.Core.Path.{◌≡◌, sym, ap, ◌∙◌}
use Prim.Native.Nat.{ℕ, ◌-◌, ◌/◌, ◌%◌}
use native.Mathlib.Omega.{arith}
use lib.Dec.{eqb}
use lib.ListN.{length, take}
use Rattle.text_hex.specs.Hex.{hex_digit}
use Rattle.checks_xor.specs.Xor.{xor_of, xor_bytes}
use Rattle.checks_shared.proofs.Closed.{closed-short, closed-no, closed-yes}
use Rattle.text_hex.proofs.Back.{hex_byte-cells}
use Rattle.checks_xor.proofs.right_xor.Goals as goal

-- the check of what is before the last two, from what the calls gave
check-is : (f m : List ℕ) (x : ℕ) → m ≡ take (length f - 2) f → x ≡ xor_of m
    → xor_bytes (take (length f - 2) f) ≡ hex_digit (x / 16 % 16) ∷ hex_digit (x % 16) ∷ []
check-is f m x p q = ap xor_bytes (sym p) ∙ hex_byte-cells (xor_of m) ∙ ap (λ (v : ℕ). hex_digit (v / 16 % 16) ∷ hex_digit (v % 16) ∷ []) (sym q)

pub returns-then-n-lt2 : goal.returns-then-n-lt2
returns-then-n-lt2 c = sym (closed-short xor_bytes c.args.text.now c.if-n-lt2.true)

pub returns-then-byte_at-hex_digit : goal.returns-then-byte_at-hex_digit
returns-then-byte_at-hex_digit c =
    let k = c in
    let f = k.args.text.now in
    let first = c.byte_at in
    let check = check-is f _ _ k.part_of.ensures k.xor_of-x.ensures in
    sym (closed-no xor_bytes f first.result _ _ (omega arith) first.ensures check (λ e. c.if-byte_at-hex_digit.true (e ∙ sym c.hex_digit.ensures)))

pub returns : goal.returns
returns c =
    let k = c in
    let f = k.args.text.now in
    let first = c.byte_at in
    let second = c.byte_at-2 in
    let check = check-is f _ _ k.part_of.ensures k.xor_of-x.ensures in
    let equal = c.if-byte_at-hex_digit.false ∙ c.hex_digit.ensures in
    ap (eqb second.result) c.hex_digit-2.ensures
    ∙ sym (closed-yes xor_bytes f first.result _ _ (omega arith) first.ensures check second.result equal second.ensures)
