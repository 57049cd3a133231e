-- Each way goes by the tests that led there. Assumes nothing.
use mathlib.Core.Path.{sym, ap, ◌∙◌}
use Prim.Native.Nat.{ℕ, ◌+◌}
use borrow.Author.Tests.{le-leb, lt-leb, ne_eqb}
use Rattle.catalogue_places.specs.Places.{unwhole_at}
use Rattle.catalogue_places.proofs.Within.{ends-inside, ends-behind}
use Rattle.catalogue_places.proofs.unwhole_at.Goals as goal

pub returns-then-s-gt-FILE_LIMIT : goal.returns-then-s-gt-FILE_LIMIT
unfolding unwhole_at
returns-then-s-gt-FILE_LIMIT c = rw (lt-leb _ _ c.if-s-gt-FILE_LIMIT.true)

pub returns-then-byte_at-ne-GROUP : goal.returns-then-byte_at-ne-GROUP
unfolding unwhole_at
returns-then-byte_at-ne-GROUP c = rw (le-leb _ _ c.if-s-gt-FILE_LIMIT.false, ← c.byte_at.ensures, ne_eqb _ _ c.if-byte_at-ne-GROUP.true)

pub returns-then-end-s : goal.returns-then-end-s
returns-then-end-s c =
    let t = c in
    ends-inside _ _ t.if-s-gt-FILE_LIMIT.false (sym t.byte_at.ensures ∙ t.if-byte_at-ne-GROUP.false) (ap (λ (n : ℕ). 3 + n) t.size_of-end.ensures.0) c.if-end-s.true

pub returns-else-end-s : goal.returns-else-end-s
returns-else-end-s c =
    let t = c in
    ends-behind _ _ t.if-s-gt-FILE_LIMIT.false (sym t.byte_at.ensures ∙ t.if-byte_at-ne-GROUP.false) (ap (λ (n : ℕ). 3 + n) t.size_of-end.ensures.0) c.if-end-s.false
