-- The profile's look at the bytes, and the run of words. Assumes nothing.
use Rattle.table_addresses.specs.Catalogue.{address_of}
use Rattle.masters.proofs.Functions.{brings-bytes}
use Rattle.masters.proofs.bodies.bytes_written.Goals as goal

pub returns : goal.returns
returns c =
    let a = c.args in
    brings-bytes _ a.attributes.now a.profile (address_of a.first) a.count _ a.bytes.now c.words_touched.ensures c.taken-fits.ensures c.word.ensures
