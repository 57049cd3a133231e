-- Each way rewrites with the tests that led there, each said of the whole word. Assumes nothing.
use borrow.Author.Tests.{eq-eqb, ne_eqb}
use mathlib.Core.Path.{◌≡◌, ap}
use mathlib.Core.Bool.{true, false}
use mathlib.Core.List.{List}
use Prim.Native.Nat.{ℕ}
use lib.Dec.{eqb}
use lib.ListN.{get_or, length}
use Rattle.rules.proofs.Choose.{via}
use Rattle.rules.specs.Choice.{same_bytes}
use Rattle.tools_options.specs.Options.{meaning, is_option, dash, help, version, ending}
use Rattle.tools_options.proofs.word_of.Goals as goal

-- a dash in front, and more than that
is-option : (s : List ℕ) → eqb (get_or s 0 0) dash ≡ true → eqb (length s) 1 ≡ false → is_option s ≡ true
unfolding is_option
is-option s e f = rw (e, f)

pub returns-then-byte_at-ne45 : goal.returns-then-byte_at-ne45
unfolding meaning is_option
returns-then-byte_at-ne45 c = rw (← c.byte_at.ensures, ne_eqb _ _ c.if-byte_at-ne45.true)

pub returns-then-text-eq1 : goal.returns-then-text-eq1
unfolding meaning is_option
returns-then-text-eq1 c = rw (← c.byte_at.ensures, eq-eqb _ _ c.if-byte_at-ne45.false, eq-eqb _ _ c.if-text-eq1.true)

pub returns-then-same : goal.returns-then-same
unfolding meaning
returns-then-same c =
    let s = c.args.text.now in
    let option : is_option s ≡ true = is-option s (via (ap (λ (x : ℕ). eqb x dash) c.byte_at.ensures) (eq-eqb _ _ c.if-byte_at-ne45.false)) (ne_eqb _ _ c.if-text-eq1.false) in
    let asks-help : same_bytes s help ≡ true = via c.same.ensures c.if-same.true in
    rw (option, asks-help)

pub returns-then-same-2 : goal.returns-then-same-2
unfolding meaning
returns-then-same-2 c =
    let s = c.args.text.now in
    let option : is_option s ≡ true = is-option s (via (ap (λ (x : ℕ). eqb x dash) c.byte_at.ensures) (eq-eqb _ _ c.if-byte_at-ne45.false)) (ne_eqb _ _ c.if-text-eq1.false) in
    let no-help : same_bytes s help ≡ false = via c.same.ensures c.if-same.false in
    let asks-version : same_bytes s version ≡ true = via c.same-2.ensures c.if-same-2.true in
    rw (option, no-help, asks-version)

pub returns-then-same-3 : goal.returns-then-same-3
unfolding meaning
returns-then-same-3 c =
    let s = c.args.text.now in
    let option : is_option s ≡ true = is-option s (via (ap (λ (x : ℕ). eqb x dash) c.byte_at.ensures) (eq-eqb _ _ c.if-byte_at-ne45.false)) (ne_eqb _ _ c.if-text-eq1.false) in
    let no-help : same_bytes s help ≡ false = via c.same.ensures c.if-same.false in
    let no-version : same_bytes s version ≡ false = via c.same-2.ensures c.if-same-2.false in
    let ends : same_bytes s ending ≡ true = via c.same-3.ensures c.if-same-3.true in
    rw (option, no-help, no-version, ends)

pub returns : goal.returns
unfolding meaning
returns c =
    let s = c.args.text.now in
    let option : is_option s ≡ true = is-option s (via (ap (λ (x : ℕ). eqb x dash) c.byte_at.ensures) (eq-eqb _ _ c.if-byte_at-ne45.false)) (ne_eqb _ _ c.if-text-eq1.false) in
    let no-help : same_bytes s help ≡ false = via c.same.ensures c.if-same.false in
    let no-version : same_bytes s version ≡ false = via c.same-2.ensures c.if-same-2.false in
    let no-ending : same_bytes s ending ≡ false = via c.same-3.ensures c.if-same-3.false in
    rw (option, no-help, no-version, no-ending, c.byte_at-2.ensures)
