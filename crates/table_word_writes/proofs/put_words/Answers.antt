-- The invariant: the words so far are written. Assumes nothing.
use native.Mathlib.Omega.{arith}
use Rattle.table_registers.proofs.Runs.{upto-none, upto-more, upto_all}
use Rattle.table_word_writes.proofs.put_words.Goals as goal

pub loop-i-init : goal.loop-i-init
loop-i-init g c = λ vs n says. upto-none vs c.args.words.now c.args.start

pub loop-i-preserved : goal.loop-i-preserved
loop-i-preserved g c = λ vs n says.
    upto-more vs c.args.words.now c.args.start (omega (arith, n, c.requires.0 (omega arith))) (omega arith) (says _ _ c.loop-i-test.true c.word.ensures) (c.loop-i.invariant vs n says)

pub returns : goal.returns
returns g c = λ vs n says. upto_all vs c.args.words.now c.args.start (omega arith) (c.loop-i.invariant vs n says)
