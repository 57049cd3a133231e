-- The invariant: the bytes so far stand in the room. Assumes nothing.
use mathlib.Core.Path.{◌≡◌, refl, sym, ap, ap₂, ◌∙◌}
use mathlib.Core.List.{List, [], ◌∷◌, ◌++◌}
use Prim.Native.Nat.{ℕ, ◌+◌, ◌*◌, ◌<◌}
use native.Mathlib.Nat.{zero-add}
use native.Mathlib.Omega.{arith}
use lib.ListN.{length, set, drop, length-set}
use Rattle.text_rooms.specs.Room.{overwrite}
use Rattle.text_rooms.proofs.Overwrite.{overwrite-none, overwrite-store}
use Rattle.text_hex.proofs.Pairs.{pair-says}
use Rattle.modbus_ascii.specs.Ascii.{byte_or0, pair_bytes}
use Rattle.modbus_ascii.proofs.Pairs.{pair_bytes-more, pair_bytes-length, pair-there, byte-said}
use Rattle.modbus_ascii.proofs.decode.Goals as goal

store : (xs ys : List ℕ) (i v : ℕ) → length ys ≡ i → i < length xs → set (overwrite xs 0 ys) i v ≡ overwrite xs 0 (ys ++ (v ∷ []))
store xs ys i v e h = ap (λ (k : ℕ). set (overwrite xs 0 ys) k v) (sym (zero-add i)) ∙ overwrite-store xs ys 0 i v e (omega arith)

pub loop-i-init : goal.loop-i-init
unfolding pair_bytes
loop-i-init c = (refl, sym (overwrite-none _ _))

pub loop-i-preserved : goal.loop-i-preserved
loop-i-preserved c =
    let a = c.args in
    let l = c.loop-i in
    let pre = c.requires in
    let first = pair-there a.text.now a.n (2 * l.i) pre.2 pre.3 (omega arith) in
    let second = pair-there a.text.now a.n (2 * l.i + 1) pre.2 pre.3 (omega arith) in
    let v : c.pair_of.result ≡ byte_or0 (drop (2 * l.i) a.text.now) = c.pair_of.ensures ∙ byte-said _ _ (pair-says a.text.now (2 * l.i) _ first second c.low_first.ensures) in (
      simp length-set l.invariant.0,
      ap₂ (λ (r : List ℕ) (x : ℕ). set r l.i x) l.invariant.1 v
          ∙ store a.bytes.now (pair_bytes l.i a.text.now) l.i (byte_or0 (drop (2 * l.i) a.text.now)) (pair_bytes-length l.i a.text.now) (omega (arith, l.invariant.0))
          ∙ ap (overwrite a.bytes.now 0) (sym (pair_bytes-more l.i a.text.now)),
    )
