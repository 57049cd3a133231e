-- What is refused touches nothing; what is granted lies in the table, so that its cells have numbers. Assumes nothing.
use Prim.Native.Nat.{◌*◌}
use mathlib.Core.Path.{refl, ap}
use native.Mathlib.Omega.{arith}
use Rattle.table_addresses.specs.Catalogue.{address_of}
use Rattle.table_cells.proofs.Touching.{decided, words-not-taken, words-none, words-refused, words-in-table, words-run}
use Rattle.table_cells.proofs.touch.words_touched.Goals as goal

pub returns-then-not-taken : goal.returns-then-not-taken
returns-then-not-taken c =
    let a = c.args in
    words-not-taken _ a.attributes.now a.area a.ways (address_of a.first) a.count a.taken c.nothing.ensures c.if-not-taken.true

pub returns-then-count-lt1 : goal.returns-then-count-lt1
returns-then-count-lt1 c =
    let a = c.args in
    words-none _ a.attributes.now a.area a.ways (address_of a.first) a.count a.taken c.nothing-then-count-lt1.ensures c.if-count-lt1.true

pub returns-then-not-is_granted : goal.returns-then-not-is_granted
returns-then-not-is_granted c =
    let a = c.args in
    words-refused _ a.attributes.now a.area a.ways (address_of a.first) a.count a.taken c.nothing-then-not-is_granted.ensures
    (decided c.first_lacking-found.ensures c.is_granted.ensures c.if-not-is_granted.true)

pub overflow_cast-k : goal.overflow_cast-k
overflow_cast-k c =
    let a = c.args in
    let granted = decided c.first_lacking-found.ensures c.is_granted.ensures c.if-not-is_granted.false in
    omega (arith, c.requires, c.word-k.ensures, words-in-table a.attributes.now a.area a.ways (address_of a.first) a.count granted (omega (arith, c.if-count-lt1.false)))

pub overflow_mul-k : goal.overflow_mul-k
overflow_mul-k c =
    let a = c.args in
    let granted = decided c.first_lacking-found.ensures c.is_granted.ensures c.if-not-is_granted.false in
    omega (arith, c.requires, c.word-k.ensures, words-in-table a.attributes.now a.area a.ways (address_of a.first) a.count granted (omega (arith, c.if-count-lt1.false)))

pub overflow_cast-count : goal.overflow_cast-count
overflow_cast-count c =
    let a = c.args in
    let granted = decided c.first_lacking-found.ensures c.is_granted.ensures c.if-not-is_granted.false in
    omega (arith, c.requires, c.word-k.ensures, words-in-table a.attributes.now a.area a.ways (address_of a.first) a.count granted (omega (arith, c.if-count-lt1.false)))

pub overflow_mul-count : goal.overflow_mul-count
overflow_mul-count c =
    let a = c.args in
    let granted = decided c.first_lacking-found.ensures c.is_granted.ensures c.if-not-is_granted.false in
    omega (arith, c.requires, c.word-k.ensures, words-in-table a.attributes.now a.area a.ways (address_of a.first) a.count granted (omega (arith, c.if-count-lt1.false)))

pub returns : goal.returns
returns c =
    let a = c.args in
    let granted = decided c.first_lacking-found.ensures c.is_granted.ensures c.if-not-is_granted.false in
    words-run _ a.attributes.now a.area a.ways (address_of a.first) a.count a.taken c.run.ensures (ap (λ k. 16 * k) c.word-k.ensures) refl granted c.if-not-taken.false
