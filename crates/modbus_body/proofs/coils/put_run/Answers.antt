-- The invariant: the bytes so far are written. Assumes nothing.
use mathlib.Core.Path.{◌≡◌, refl, sym, ap, ap₂, ◌∙◌}
use mathlib.Core.List.{List, [], ◌∷◌}
use Prim.Native.Nat.{ℕ, ◌+◌, ◌*◌}
use native.Mathlib.Omega.{arith}
use native.Mathlib.Nat.{min_comm}
use lib.ListN.{take, drop, length-set}
use Rattle.text_rooms.specs.Room.{overwrite}
use Rattle.text_rooms.proofs.Overwrite.{overwrite-none, overwrite-run, overwrite-join}
use Rattle.modbus_body.specs.Bytes.{byte_of, packed}
use Rattle.modbus_body.proofs.Packed.{cells, cells-part, packed_more, packed-length}
use Rattle.modbus_body.proofs.coils.put_run.Goals as goal

pub loop-j-init : goal.loop-j-init
unfolding packed
loop-j-init c = (refl, sym (overwrite-none _ _))

pub loop-j-preserved : goal.loop-j-preserved
loop-j-preserved c =
    let a = c.args in
    let l = c.loop-j in
    let bs = cells a.words.now a.cell a.count in
    let v : c.byte_of.result ≡ byte_of (take 8 (drop (8 * l.j) bs)) =
    c.byte_of.ensures ∙ ap (λ (m : ℕ). byte_of (cells a.words.now (a.cell + 8 * l.j) m)) (c.min.ensures ∙ min_comm _ 8) ∙ sym (cells-part a.words.now a.cell a.count l.j) in (
      simp length-set l.invariant.0,
      overwrite-run l.out (c.byte_of.result ∷ []) (a.at + l.j) (omega arith)
          ∙ ap₂ (λ (w : List ℕ) (x : ℕ). overwrite w (a.at + l.j) (x ∷ [])) l.invariant.1 v
          ∙ overwrite-join a.out.now (packed l.j bs) (byte_of (take 8 (drop (8 * l.j) bs)) ∷ []) a.at (a.at + l.j) (omega arith) (ap (λ (k : ℕ). a.at + k) (sym (packed-length l.j bs)))
          ∙ ap (overwrite a.out.now a.at) (sym (packed_more l.j bs)),
    )
