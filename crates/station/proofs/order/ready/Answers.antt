-- Each way rewrites with the tests that led there. Assumes nothing.
use borrow.Author.Tests.{le-leb, lt-leb, eq-eqb}
use mathlib.Core.Bool.{Bool, true}
use mathlib.Core.List.{List}
use mathlib.Core.Path.{◌≡◌, ap, ◌∙◌}
use Prim.Native.Nat.{ℕ}
use native.Mathlib.Omega.{arith}
use lib.Dec.{leb, eqb}
use lib.ListN.{length, take}
use lib.Seq.{take_all}
use Rattle.rules.specs.Choice.{between, all_between}
use Rattle.rules.proofs.Choose.{via}
use Rattle.table_addresses.specs.Catalogue.{table_limit}
use Rattle.station.proofs.order.ready.Goals as goal

-- as many attributes as words are all of them
all_seen : (n : ℕ) (s : List ℕ) (r : Bool) → length s ≡ n → r ≡ all_between 0 3 (take n s) → r ≡ all_between 0 3 s
all_seen n s r many seen = seen ∙ ap (all_between 0 3) (take_all n s (omega (arith, many)))

pub returns-then-own-lt1 : goal.returns-then-own-lt1
unfolding between
returns-then-own-lt1 c =
    let words : leb c.args.words table_limit ≡ true = le-leb c.args.words table_limit (omega arith) in
    let many : eqb (length c.args.attributes.now) c.args.words ≡ true = eq-eqb _ _ c.if-attributes-words.false in
    let known : all_between 0 3 c.args.attributes.now ≡ true = via (all_seen _ _ _ c.if-attributes-words.false c.none_of_many_above_3.ensures) c.if-not-none_of_many_above_3.false in
    rw (words, many, known, lt-leb 1 c.args.own (omega arith))

pub returns-then-own-highest : goal.returns-then-own-highest
unfolding between
returns-then-own-highest c =
    let words : leb c.args.words table_limit ≡ true = le-leb c.args.words table_limit (omega arith) in
    let many : eqb (length c.args.attributes.now) c.args.words ≡ true = eq-eqb _ _ c.if-attributes-words.false in
    let known : all_between 0 3 c.args.attributes.now ≡ true = via (all_seen _ _ _ c.if-attributes-words.false c.none_of_many_above_3.ensures) c.if-not-none_of_many_above_3.false in
    rw (words, many, known, le-leb 1 c.args.own (omega arith), lt-leb _ _ c.if-own-highest.true)

pub returns-then-room-least : goal.returns-then-room-least
unfolding between
returns-then-room-least c =
    let words : leb c.args.words table_limit ≡ true = le-leb c.args.words table_limit (omega arith) in
    let many : eqb (length c.args.attributes.now) c.args.words ≡ true = eq-eqb _ _ c.if-attributes-words.false in
    let known : all_between 0 3 c.args.attributes.now ≡ true = via (all_seen _ _ _ c.if-attributes-words.false c.none_of_many_above_3.ensures) c.if-not-none_of_many_above_3.false in
    rw (words, many, known, le-leb 1 c.args.own (omega arith), le-leb _ _ c.if-own-highest.false, lt-leb _ _ c.if-room-least.true)

pub returns : goal.returns
unfolding between
returns c =
    let words : leb c.args.words table_limit ≡ true = le-leb c.args.words table_limit (omega arith) in
    let many : eqb (length c.args.attributes.now) c.args.words ≡ true = eq-eqb _ _ c.if-attributes-words.false in
    let known : all_between 0 3 c.args.attributes.now ≡ true = via (all_seen _ _ _ c.if-attributes-words.false c.none_of_many_above_3.ensures) c.if-not-none_of_many_above_3.false in
    rw (words, many, known, le-leb 1 c.args.own (omega arith), le-leb _ _ c.if-own-highest.false, le-leb _ _ c.if-room-least.false)
