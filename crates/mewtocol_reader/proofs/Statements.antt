-- The statements of specs/Statements: one answer only. Assumes nothing.
use mathlib.Core.Path.{◌≡◌, refl, sym, ap, ◌∙◌}
use mathlib.Core.List.{List}
use Prim.Native.Nat.{ℕ}
use Rattle.mewtocol_reader.specs.Replies.{Read, refused, unasked, error, shows, read_of}
use Rattle.mewtocol_reader.specs.Statements.{OneRead}
use Rattle.mewtocol_reader.specs.declared.Reply.{Reply}
use Rattle.mewtocol_reader.specs.declared.Reply.TheVariants as reply

abbrev back : Read → Reply
back (refused k) = reply.Refused (record { 0 = k })
back (unasked p) = reply.NotAsked p
back (error e) = reply.Error e
back (shows t) = reply.Shows

back_is : (r : Reply) (f : List ℕ) → back (read_of r f) ≡ r
back_is reply.Shows f = refl
back_is (reply.Error e) f = refl
back_is (reply.NotAsked p) f = refl
back_is (reply.Refused r) f = refl

pub one-read : OneRead
one-read f r a b p q = sym (back_is a f) ∙ ap back (p ∙ sym q) ∙ back_is b f
