-- Two bytes make the word; each is below 256. Assumes nothing.
use native.Mathlib.Omega.{arith}
use Rattle.rules.proofs.Choose.{via}
use Rattle.text_digits.proofs.Running.{running-below, later-value}
use Rattle.text_hex.proofs.Values.{hex-digits}
use Rattle.text_hex_words.specs.Words.{low_first_word}
use Rattle.text_hex_words.proofs.word_low_first.Goals as goal

pub returns-in_default : goal.returns-in_default
unfolding low_first_word
returns-in_default c = rw (via c.hex_byte-first.ensures c.in_default.is) c.in_default.is

pub returns-in_default-second : goal.returns-in_default-second
unfolding low_first_word
returns-in_default-second c = rw (via c.hex_byte-first.ensures c.in-Value.is, via c.second_byte-second.ensures c.in_default-second.is) c.in_default-second.is

pub overflow_mul-result : goal.overflow_mul-result
overflow_mul-result c =
    omega (
      arith,
      running-below hex-digits 2 0 _ _ (via c.hex_byte-first.ensures c.in-Value.is),
      running-below hex-digits 2 0 _ _ (later-value 2 _ _ (via c.second_byte-second.ensures c.in-Value-second.is)),
    )

pub overflow_add-result : goal.overflow_add-result
overflow_add-result c =
    omega (
      arith,
      running-below hex-digits 2 0 _ _ (via c.hex_byte-first.ensures c.in-Value.is),
      running-below hex-digits 2 0 _ _ (later-value 2 _ _ (via c.second_byte-second.ensures c.in-Value-second.is)),
    )

pub returns : goal.returns
unfolding low_first_word
returns c = rw (via c.hex_byte-first.ensures c.in-Value.is, via c.second_byte-second.ensures c.in-Value-second.is)
