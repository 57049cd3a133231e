-- The name, and what follows it. Assumes nothing.
use mathlib.Core.Path.{◌≡◌, sym, ap, ap₂, subst, ◌∙◌}
use mathlib.Core.List.{List, ◌++◌, append_assoc}
use Prim.Native.Nat.{ℕ, ◌+◌}
use native.Mathlib.Omega.{arith}
use lib.ListN.{length}
use Rattle.mewtocol_commands.specs.Commands.{Entry, entry, Layout, layout, fields_of}
use Rattle.mewtocol_asking.specs.Asking.{listed_by, numbers_of, count_text, filled, fit, ask_text}
use Rattle.mewtocol_asking.specs.Code.{request_of, numbers_for}
use Rattle.mewtocol_writer.specs.Writing.{Puts, body_text}
use Rattle.mewtocol_writer.proofs.Ways.{text-length, name-short, puts-join}
use Rattle.mewtocol_writer.proofs.fields.put_text.Goals as goal

pub put_body-requires : goal.put_body-requires
put_body-requires c =
    let a = c.args in
    let q = request_of a.asking.now in
    let ns = numbers_for a.asking.now in
    let y = c.layout.ensures ∙ ap (λ (e : Entry). layout e.kind) c.entry-e.ensures in
    let n = c.listed-n.ensures in
    let body = ap₂ (λ (z : Layout) (m : ℕ). length (body_text z m ns)) y n in
    let named = c.put_name-at.ensures.after ∙ ap (λ (e : Entry). 4 + length e.name) c.entry-e.ensures in
    let k : length c.put_name-at.new.room ≡ length a.room.now = c.put_name-at.auto.room in (
      omega (arith, c.requires.1, text-length a.asking.now.command q, named, body, k),
      rw (y, n) c.requires.2.0,
      ap₂ (λ (z : Layout) (m : ℕ). fit (fields_of z m) ns) y n ∙ c.requires.2.1,
      omega (arith, named, name-short a.asking.now.command),
    )

pub returns : goal.returns
unfolding ask_text
returns c =
    let a = c.args in
    let q = request_of a.asking.now in
    let ns = numbers_for a.asking.now in
    let k = (entry a.asking.now.command).kind in
    let y = c.layout.ensures ∙ ap (λ (e : Entry). layout e.kind) c.entry-e.ensures in
    let n = c.listed-n.ensures in
    let name-is = ap (λ (e : Entry). e.name) c.entry-e.ensures in
    let body_is = ap₂ (λ (z : Layout) (m : ℕ). body_text z m ns) y n in
    let all = puts-join (omega (arith, c.requires.0)) c.put_name-at.ensures c.put_body.ensures in
    subst (λ (t : List ℕ). Puts 4 t a.room.now c.put_body.result c.put_body.new.room)
    (ap₂ (λ (s t : List ℕ). s ++ t) name-is body_is ∙ sym (append_assoc (entry a.asking.now.command).name (count_text (layout k) (listed_by q)) (filled (fields_of (layout k) (listed_by q)) (numbers_of q)))) all
