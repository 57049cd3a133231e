-- Each way rewrites with the tests that led there. Assumes nothing.
use borrow.Author.Tests.{eq-eqb, ne_eqb}
use mathlib.Core.Bool.{Bool}
use mathlib.Core.List.{List}
use mathlib.Core.Path.{◌≡◌, sym, ap, ap₂, ◌∙◌}
use native.Mathlib.Nat.{add_comm}
use native.Mathlib.Omega.{arith}
use Prim.Native.Nat.{ℕ, ◌+◌, ◌≤◌}
use lib.ListN.{length, drop, length-drop}
use Rattle.rules.specs.Choice.{first_not}
use Rattle.rules.proofs.Choose.{via}
use Rattle.text_slices.proofs.First.{first-within}
use Rattle.mewtocol_asking.specs.Code.{request_of}
use Rattle.mewtocol_reader.specs.Replies.{shows, unasked, allowed, first_wrong, data_in}
use Rattle.mewtocol_reader.proofs.replies.data_in.Goals as goal

pub returns-then-not-good_letters : goal.returns-then-not-good_letters
unfolding data_in
returns-then-not-good_letters c f e =
    let a = c.args in
    rw (via c.good_letters.ensures c.if-not-good_letters.true)

pub returns-then-part-data_size : goal.returns-then-part-data_size
unfolding data_in
returns-then-part-data_size c f e =
    let a = c.args in
    rw (via c.good_letters.ensures c.if-not-good_letters.false, ne_eqb _ _ (λ s. c.if-part-data_size.true (ap length c.rest-part.ensures ∙ s ∙ sym c.data_size.ensures)))

pub overflow_add-result : goal.overflow_add-result
overflow_add-result c =
    let a = c.args in
    let within : c.first_wrong-wrong.result ≤ length (drop 2 a.text.now) =
    rw (c.first_wrong-wrong.ensures, c.rest-part.ensures) (first-within (allowed c.tells_contacts.result) (drop 2 a.text.now)) in
    omega (arith, within, length-drop 2 a.text.now)

pub returns-then-wrong-part : goal.returns-then-wrong-part
unfolding data_in
returns-then-wrong-part c f e =
    let a = c.args in
    let q = request_of a.asking.now in
    let at : c.first_wrong-wrong.result ≡ first_wrong q (drop 2 a.text.now) =
    c.first_wrong-wrong.ensures ∙ ap₂ (λ (b : Bool) (s : List ℕ). first_not (allowed b) s) c.tells_contacts.ensures c.rest-part.ensures in
    rw (
      via c.good_letters.ensures c.if-not-good_letters.false,
      eq-eqb _ _ (sym (ap length c.rest-part.ensures) ∙ c.if-part-data_size.false ∙ c.data_size.ensures),
      ne_eqb _ _ (λ s. c.if-wrong-part.true (at ∙ s ∙ sym (ap length c.rest-part.ensures))),
    ) (ap unasked (add_comm _ 6 ∙ ap (λ (n : ℕ). 6 + n) at))

pub returns : goal.returns
unfolding data_in
returns c f e =
    let a = c.args in
    let q = request_of a.asking.now in
    let at : c.first_wrong-wrong.result ≡ first_wrong q (drop 2 a.text.now) =
    c.first_wrong-wrong.ensures ∙ ap₂ (λ (b : Bool) (s : List ℕ). first_not (allowed b) s) c.tells_contacts.ensures c.rest-part.ensures in
    rw (
      via c.good_letters.ensures c.if-not-good_letters.false,
      eq-eqb _ _ (sym (ap length c.rest-part.ensures) ∙ c.if-part-data_size.false ∙ c.data_size.ensures),
      eq-eqb _ _ (sym at ∙ c.if-wrong-part.false ∙ ap length c.rest-part.ensures),
    ) (ap (λ (t : List ℕ). shows (drop 2 t)) e)
