-- What four characters say is a word. Assumes nothing.
use mathlib.Core.Path.{◌≡◌}
use mathlib.Core.List.{List}
use Prim.Native.Nat.{ℕ, ◌+◌, ◌*◌, ◌<◌}
use native.Mathlib.Omega.{arith}
use lib.ListN.{drop}
use Rattle.text_digits.specs.Digits.{later}
use Rattle.text_digits.specs.declared.Number.TheVariants.{Value}
use Rattle.text_digits.proofs.Running.{running-below, with_value, later-value}
use Rattle.text_hex.specs.Hex.{hex}
use Rattle.text_hex.proofs.Values.{hex-digits}
use Rattle.text_hex_words.specs.Words.{low_first_word}

pub low-first-small : (s : List ℕ) (w : ℕ) → low_first_word s ≡ Value w → w < 65536
unfolding low_first_word
low-first-small s w e =
    let low = with_value (hex 2 s) _ w e in
    let high = with_value (later 2 (hex 2 (drop 2 s))) _ w low.1.1 in
    let a = running-below hex-digits 2 0 low.0 s low.1.0 in
    let b = running-below hex-digits 2 0 high.0 (drop 2 s) (later-value 2 _ high.0 high.1.0) in
    let z : low.0 + 256 * high.0 ≡ w = cc in
    omega arith
