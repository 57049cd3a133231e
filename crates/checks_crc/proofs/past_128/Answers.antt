-- Once, twice and four times. Assumes nothing.
use mathlib.Core.Path.{sym, ap, ap₂, ◌∙◌}
use borrow.Author.Rules.{rules}
use lib.Bits.{bit_xor}
use Rattle.checks_crc.specs.Crc.{shifted, shifts}
use Rattle.checks_crc.proofs.Runs.{past-128-bytes}
use Rattle.checks_crc.proofs.past_128.Goals as goal

pub returns : goal.returns
unfolding shifts
returns c =
    let c3 = c in
    let c2 = c3 in
    let c1 = c2 in
    let one = c1.shift_once-once.ensures in
    let two = c2.shift_once-twice.ensures ∙ ap shifted one in
    let four = c.shift_once-2.ensures ∙ ap shifted (c3.shift_once.ensures ∙ ap shifted two) in
    ap₂ bit_xor (ap₂ bit_xor one two) four ∙ sym (past-128-bytes c1.args.r (search rules))
