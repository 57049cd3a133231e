-- The profile's look at the word, and the run of words. Assumes nothing.
use Rattle.mewtocol_frame.specs.Text as tx
use Rattle.masters.proofs.Asking.{fills-words}
use Rattle.masters.proofs.mewtocol.filled.Goals as goal

pub returns : goal.returns
returns c =
    let a = c.args in
    fills-words _ a.attributes.now a.profile a.start (tx.span a.start a.end) a.word _ _ _ a.attributes.now
    c.words_touched.ensures c.in_digits-first.ensures c.span-count.ensures.0 c.taken-fits.ensures c.word.ensures
