-- The profile's look at the text, and the run of words. Assumes nothing.
use Rattle.table_addresses.specs.Areas.{word_in}
use Rattle.masters.proofs.Asking.{brings-text}
use Rattle.masters.proofs.mewtocol.text_written.Goals as goal

pub returns : goal.returns
returns c =
    let a = c.args in
    brings-text _ a.attributes.now a.profile a.area (word_in a.area a.start) a.count _ _ a.text.now c.words_touched.ensures c.in_digits-first.ensures c.taken-fits.ensures c.word.ensures
