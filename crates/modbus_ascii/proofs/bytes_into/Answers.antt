-- The pairs' bytes stand at the start of the room. Assumes nothing.
use Prim.Native.Nat.{ℕ, ◌*◌}
use mathlib.Core.List.{List}
use mathlib.Core.Path.{◌≡◌, refl, sym, ap, ◌∙◌}
use native.Mathlib.Omega.{arith}
use lib.ListN.{take, drop, length-drop}
use Rattle.rules.proofs.Choose.{via}
use Rattle.text_hex.specs.Hex.{all_hex}
use Rattle.modbus_ascii.specs.Ascii.{count_of, pair_bytes}
use Rattle.modbus_ascii.proofs.Pairs.{pair_bytes-length, seen, good-count, good-pairs}
use Rattle.modbus_ascii.proofs.bytes_into.Goals as goal

pub returns-then-not-good_ascii : goal.returns-then-not-good_ascii
returns-then-not-good_ascii c = via c.good_ascii.ensures c.if-not-good_ascii.true

pub overflow_sub-count : goal.overflow_sub-count
overflow_sub-count c = omega (arith, good-count c.args.frame.now (via c.good_ascii.ensures c.if-not-good_ascii.false))

pub decode-requires : goal.decode-requires
decode-requires c =
    let f = c.args.frame.now in
    let good = via c.good_ascii.ensures c.if-not-good_ascii.false in
    let g = good-count f good in
    let p = good-pairs f good in
    let t : c.rest.result.now ≡ drop 1 f = c.rest.ensures in
    (omega (arith, g, c.requires), omega (arith, g), rw t (omega (arith, p.0, length-drop 1 f)), ap (λ (l : List ℕ). all_hex (take (2 * count_of f) l)) t ∙ p.1)

pub returns : goal.returns
returns c =
    let f = c.args.frame.now in
    let text = c.rest.result.now in
    let good = via c.good_ascii.ensures c.if-not-good_ascii.false in
    let there = seen _ (pair_bytes (count_of f) text) (sym (pair_bytes-length (count_of f) text)) c.decode.ensures refl in
    record {
      shape = good;
      count-is = refl;
      least = (good-count f good).0;
      most = (good-count f good).1;
      bytes-are = there ∙ ap (pair_bytes (count_of f)) c.rest.ensures;
    }
