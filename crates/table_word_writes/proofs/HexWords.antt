-- Four hex digits say the word that arithmetic makes of their two pairs. Assumes nothing.
use mathlib.Core.Bool.{true}
use mathlib.Core.List.{List}
use mathlib.Core.Path.{◌≡◌, ap, ◌∙◌}
use Prim.Native.Nat.{ℕ, ◌+◌, ◌*◌, ◌<◌}
use native.Mathlib.Omega.{arith}
use lib.ListN.{length, drop, get_or}
use lib.Seq.{drop-drop}
use Rattle.text_digits.specs.Digits.{with_number}
use Rattle.text_digits.specs.declared.Number.TheVariants.{Value}
use Rattle.text_hex.specs.Hex.{hex, all_hex, pair_of}
use Rattle.text_hex.proofs.Pairs.{all_hex-at, pair-says}
use Rattle.text_hex_words.specs.Words.{low_first_word}

-- the pair at an index of a text that is hex
pair-in : (s : List ℕ) (o w : ℕ) → all_hex s ≡ true → o + 1 < length s → w ≡ get_or s o 0 + 256 * get_or s (o + 1) 0 → hex 2 (drop o s) ≡ Value (pair_of w)
pair-in s o w h l e = pair-says s o w (all_hex-at s h o (omega arith)) (all_hex-at s h (o + 1) l) e

pub word-says : (s : List ℕ) (o v w : ℕ) → all_hex s ≡ true → o + 3 < length s → v ≡ get_or s o 0 + 256 * get_or s (o + 1) 0
    → w ≡ get_or s (o + 2) 0 + 256 * get_or s (o + 2 + 1) 0 → pair_of v + 256 * pair_of w ≡ with_number (low_first_word (drop o s)) (λ x. x) 0
unfolding low_first_word
word-says s o v w h l e f =
    let first : hex 2 (drop o s) ≡ Value (pair_of v) = pair-in s o v h (omega arith) e in
    let second : hex 2 (drop 2 (drop o s)) ≡ Value (pair_of w) = ap (hex 2) (drop-drop 2 o s) ∙ pair-in s (o + 2) w h (omega arith) f in
    rw (first, second)
