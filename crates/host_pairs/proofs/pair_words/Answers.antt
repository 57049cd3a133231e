-- The one test, and the two halves of the bits; a call is handed the number as its bits say it. Assumes nothing.
use mathlib.Core.Path.{sym, ap, ◌∙◌}
use Prim.Native.Nat.{ℕ, ◌/◌, ◌%◌}
use mir.Syntax.{w32}
use mir.Facts.{to_z-of_z}
use Rattle.rules.proofs.Choose.{via, pick_yes, pick_no}
use Rattle.host_pairs.specs.Pairs.{bits, is_writable, words, pair_words}
use Rattle.host_pairs.proofs.pair_words.Goals as goal

pub returns-then-not-is_writable : goal.returns-then-not-is_writable
unfolding pair_words
returns-then-not-is_writable c =
    let z = c.args.value in
    let same = sym (to_z-of_z {w = w32} {z = z} c.ranges.value) in
    sym (pick_no (is_writable z) _ _ (ap is_writable same ∙ via c.is_writable.ensures c.if-not-is_writable.true))

pub returns : goal.returns
unfolding pair_words
returns c =
    let z = c.args.value in
    let same = sym (to_z-of_z {w = w32} {z = z} c.ranges.value) in
    ap (λ (v : ℕ). words (v % 65536) (v / 65536)) (c.bits_of-v.ensures ∙ ap bits (sym same))
    ∙ sym (pick_yes (is_writable z) _ _ (ap is_writable same ∙ via c.is_writable.ensures c.if-not-is_writable.false))
