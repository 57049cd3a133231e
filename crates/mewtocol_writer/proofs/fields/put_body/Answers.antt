-- Each arm is one layout. Assumes nothing.
use mathlib.Core.Path.{◌≡◌, refl, sym, ap, ap₂, subst, ◌∙◌}
use mathlib.Core.List.{List, [], ◌∷◌}
use Prim.Native.Nat.{ℕ, ◌+◌, ◌*◌, ◌≤◌}
use native.Mathlib.Nat.{mul_comm}
use native.Mathlib.Omega.{arith}
use lib.ListN.{length, drop, length-append}
use Rattle.rules.specs.Characters.{digit0}
use Rattle.rules.proofs.Choose.{both_left, both_right}
use Rattle.text_rooms.specs.Room.{overwrite}
use Rattle.mewtocol_commands.specs.Rows.{times, widths}
use Rattle.mewtocol_commands.specs.Commands.{Layout, once, counted, with_words, fields_of}
use Rattle.mewtocol_commands.specs.Code.{row_of, layout_of}
use Rattle.mewtocol_commands.specs.declared.Field.{Field}
use Rattle.mewtocol_commands.specs.declared.Field.TheVariants.{Word}
use Rattle.mewtocol_commands.proofs.OverRows.{times-widths}
use Rattle.mewtocol_asking.specs.Asking.{filled, fit}
use Rattle.mewtocol_asking.specs.Code.{numbers_for, says_all}
use Rattle.mewtocol_asking.proofs.Fit.{fit_append}
use Rattle.mewtocol_writer.specs.Writing.{Puts, body_text}
use Rattle.mewtocol_writer.proofs.Filled.{filled-length, filled-append}
use Rattle.mewtocol_writer.proofs.Ways.{puts-join}
use Rattle.mewtocol_writer.proofs.fields.put_body.Goals as goal

pub put_row-requires : goal.put_row-requires
put_row-requires c =
    let a = c.args in
    let ns = numbers_for a.asking.now in
    let r = row_of c.in-Once.row in
    let y : layout_of a.layout ≡ once r = ap layout_of c.in-Once.is in
    let h = ap (λ (z : Layout). length (body_text z a.n ns)) y in (
      omega (arith, c.requires.0, h, filled-length r ns),
      omega arith,
      sym (ap (λ (z : Layout). fit (fields_of z a.n) ns) y) ∙ c.requires.2,
    )

pub put_times-requires : goal.put_times-requires
put_times-requires c =
    let a = c.args in
    let ns = numbers_for a.asking.now in
    let r = row_of c.in-Counted.row in
    let y : layout_of a.layout ≡ counted r = ap layout_of c.in-Counted.is in
    let h = ap (λ (z : Layout). length (body_text z a.n ns)) y in
    let few : a.n ≤ 8 = rw c.in-Counted.is at c.requires.1 in
    let k : length c.put_byte.new.out ≡ length a.room.now = c.put_byte.auto.out in (
      omega (arith, c.requires.0, h, filled-length (times a.n r) ns, times-widths a.n r, k),
      omega (arith, few),
      omega arith,
      sym (ap (λ (z : Layout). fit (fields_of z a.n) ns) y) ∙ c.requires.2,
    )

pub put_row-requires-in-WithWords : goal.put_row-requires-in-WithWords
put_row-requires-in-WithWords c =
    let a = c.args in
    let ns = numbers_for a.asking.now in
    let r = row_of c.in-WithWords.row in
    let u = times a.n (Word ∷ []) in
    let y : layout_of a.layout ≡ with_words r = ap layout_of c.in-WithWords.is in
    let h = ap (λ (z : Layout). length (body_text z a.n ns)) y ∙ ap length (filled-append r u ns) ∙ length-append (filled r ns) (filled u (drop (says_all r) ns)) in (
      omega (arith, c.requires.0, h, filled-length r ns),
      omega arith,
      both_left _ _ (sym (fit_append r u ns) ∙ sym (ap (λ (z : Layout). fit (fields_of z a.n) ns) y) ∙ c.requires.2),
    )

pub put_times-requires-in-WithWords : goal.put_times-requires-in-WithWords
put_times-requires-in-WithWords c =
    let a = c.args in
    let ns = numbers_for a.asking.now in
    let r = row_of c.in-WithWords.row in
    let u = times a.n (Word ∷ []) in
    let y : layout_of a.layout ≡ with_words r = ap layout_of c.in-WithWords.is in
    let h = ap (λ (z : Layout). length (body_text z a.n ns)) y ∙ ap length (filled-append r u ns) ∙ length-append (filled r ns) (filled u (drop (says_all r) ns)) in
    let k : length c.put_row-in-WithWords.new.room ≡ length a.room.now = c.put_row-in-WithWords.auto.room in
    let w : widths (row_of c.word.result) * a.n ≡ widths (Word ∷ []) * a.n = ap (λ (v : List Field). widths v * a.n) c.word.ensures in (
      omega (arith, c.requires.0, h, filled-length r ns, filled-length u (drop (says_all r) ns), times-widths a.n (Word ∷ []), c.wide-in-WithWords.ensures.0, k, w),
      rw c.in-WithWords.is at c.requires.1,
      c.numbers_in.ensures.1,
      ap₂ (λ (v : List Field) (j : ℕ). fit (times a.n v) (drop j ns)) c.word.ensures c.numbers_in.ensures.0
          ∙ both_right (fit r ns) _ (sym (fit_append r u ns) ∙ sym (ap (λ (z : Layout). fit (fields_of z a.n) ns) y) ∙ c.requires.2),
    )

pub returns-in-Once : goal.returns-in-Once
returns-in-Once c =
    let a = c.args in
    let ns = numbers_for a.asking.now in
    let r = row_of c.in-Once.row in
    rw c.in-Once.is (record { after = ap (λ (n : ℕ). a.at + n) (c.wide.ensures.0 ∙ sym (filled-length r ns)); room = c.put_row.ensures })

pub returns-in-Counted : goal.returns-in-Counted
returns-in-Counted c =
    let a = c.args in
    let ns = numbers_for a.asking.now in
    let r = row_of c.in-Counted.row in
    let h = ap (λ (z : Layout). length (body_text z a.n ns)) (ap layout_of c.in-Counted.is) in
    let w : a.n * c.wide-in-Counted.result ≡ length (filled (times a.n r) ns) = mul_comm a.n c.wide-in-Counted.result ∙ ap (λ (x : ℕ). x * a.n) c.wide-in-Counted.ensures.0 ∙ sym (filled-length (times a.n r) ns ∙ times-widths a.n r) in
    let first : Puts a.at ((digit0 + a.n) ∷ []) a.room.now (a.at + 1) c.put_byte.new.out = record { after = refl; room = c.put_byte.ensures } in
    let more : Puts (a.at + 1) (filled (times a.n r) ns) c.put_byte.new.out (a.at + 1 + a.n * c.wide-in-Counted.result) c.put_times.new.room = record { after = ap (λ (n : ℕ). a.at + 1 + n) w; room = c.put_times.ensures } in
    rw c.in-Counted.is (puts-join (omega (arith, c.requires.0)) first more)

pub returns-in-WithWords : goal.returns-in-WithWords
unfolding widths
returns-in-WithWords c =
    let a = c.args in
    let ns = numbers_for a.asking.now in
    let r = row_of c.in-WithWords.row in
    let u = times a.n (Word ∷ []) in
    let o = a.at + c.wide-in-WithWords.result in
    let first : Puts a.at (filled r ns) a.room.now o c.put_row-in-WithWords.new.room = record { after = ap (λ (n : ℕ). a.at + n) (c.wide-in-WithWords.ensures.0 ∙ sym (filled-length r ns)); room = c.put_row-in-WithWords.ensures } in
    let w : 4 * a.n ≡ length (filled u (drop (says_all r) ns)) = sym (filled-length u (drop (says_all r) ns) ∙ times-widths a.n (Word ∷ [])) in
    let more : Puts o (filled u (drop (says_all r) ns)) c.put_row-in-WithWords.new.room (o + 4 * a.n) c.put_times-in-WithWords.new.room =
    record {
      after = ap (λ (n : ℕ). o + n) w;
      room = c.put_times-in-WithWords.ensures ∙ ap₂ (λ (v : List Field) (j : ℕ). overwrite c.put_row-in-WithWords.new.room o (filled (times a.n v) (drop j ns))) c.word.ensures c.numbers_in.ensures.0;
    } in
    rw c.in-WithWords.is
    (subst (λ (t : List ℕ). Puts a.at t a.room.now (o + 4 * a.n) c.put_times-in-WithWords.new.room) (sym (filled-append r u ns)) (puts-join (omega (arith, c.requires.0)) first more))
