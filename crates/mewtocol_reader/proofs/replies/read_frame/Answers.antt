-- Each way rewrites with the tests that led there. Assumes nothing.
use mathlib.Core.Path.{◌≡◌, sym, ap, ◌∙◌}
use mathlib.Core.Bool.{Bool}
use mathlib.Core.List.{List}
use Prim.Native.Nat.{ℕ}
use Rattle.rules.proofs.Choose.{via}
use Rattle.mewtocol_frame.specs.declared.Limits.{Limits}
use Rattle.mewtocol_frame.specs.Frame.{limits_in, good_shape}
use Rattle.mewtocol_reader.specs.Replies.{read_frame}
use Rattle.mewtocol_reader.proofs.Shows.{text-short}
use Rattle.mewtocol_reader.proofs.replies.read_frame.Goals as goal

-- the shape, at the form that the code holds
shape : (l : Limits) (f : List ℕ) (r b : Bool) → l ≡ limits_in f → r ≡ good_shape l 9 f → r ≡ b → good_shape (limits_in f) 9 f ≡ b
shape l f r b e s is = sym (s ∙ ap (λ (x : Limits). good_shape x 9 f) e) ∙ is

pub returns-then-not-good_shape : goal.returns-then-not-good_shape
unfolding read_frame
returns-then-not-good_shape c = rw (shape _ _ _ _ c.limits_in-own.ensures c.good_shape.ensures c.if-not-good_shape.true)

pub returns-then-not-good_check : goal.returns-then-not-good_check
unfolding read_frame
returns-then-not-good_check c = rw (shape _ _ _ _ c.limits_in-own.ensures c.good_shape.ensures c.if-not-good_shape.false, via c.good_check.ensures c.if-not-good_check.true)

pub returns-then-not-for_station : goal.returns-then-not-for_station
unfolding read_frame
returns-then-not-for_station c = rw (shape _ _ _ _ c.limits_in-own.ensures c.good_shape.ensures c.if-not-good_shape.false, via c.good_check.ensures c.if-not-good_check.false, via c.for_station.ensures c.if-not-for_station.true)

pub form_reply-requires : goal.form_reply-requires
form_reply-requires c = text-short _ _ (shape _ _ _ _ c.limits_in-own.ensures c.good_shape.ensures c.if-not-good_shape.false)

pub returns : goal.returns
unfolding read_frame
returns c = rw (shape _ _ _ _ c.limits_in-own.ensures c.good_shape.ensures c.if-not-good_shape.false, via c.good_check.ensures c.if-not-good_check.false, via c.for_station.ensures c.if-not-for_station.false) c.form_reply.ensures
