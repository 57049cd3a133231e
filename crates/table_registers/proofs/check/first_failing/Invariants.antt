-- The invariant: the answer for the whole list is the answer for what is left of it. Assumes nothing.
use Rattle.std.proofs.Common.{◌≡◌, Bool, List, ℕ, ◌<◌, length, drop, get_or}
use Rattle.table_registers.specs.Table.{checked}
use Rattle.table_registers.proofs.check.first_failing.Given as goal

abbrev pub invariant-loop-i : goal.invariant-loop-i
invariant-loop-i g l = (p : ℕ → Bool) (ks : List ℕ) → length ks ≡ l.count → ((i : ℕ) (b : Bool) → i < l.count → goal.F-post g l.passes i b → b ≡ p (get_or ks i 0)) → checked p 0 ks ≡ checked p l.i (drop l.i ks)
