-- Each kind has its law by place. Assumes nothing.
use mathlib.Core.Path.{◌≡◌, sym, ap₂, ◌∙◌}
use Prim.Native.Nat.{ℕ, ◌+◌, ◌-◌, ◌*◌, ◌<◌}
use mathlib.Core.Bool.{true}
use lib.Dec.{leb}
use borrow.Author.Tests.{ltb-true}
use Rattle.rules.proofs.Choose.{both_right}
use Rattle.table_profiles.specs.Runs.{in_run}
use Rattle.table_registers.proofs.Runs.{words_of_bytes-at, words_of_text-at}
use Rattle.table_profiles.proofs.Write.word.Goals as goal

-- a word of a run is one of its n
within : (start n k : ℕ) → in_run start n k ≡ true → k - start < n
within start n k e = ltb-true (k - start) n (both_right (leb start k) _ e)

pub returns-in-Bytes : goal.returns-in-Bytes
returns-in-Bytes c = rw c.in-Bytes.is (ap₂ (λ (h l : ℕ). h * 256 + l) c.byte_at.ensures c.byte_at-in-Bytes.ensures ∙ sym (words_of_bytes-at _ _ _ (within _ _ _ c.requires.0)))

pub returns-in-Text : goal.returns-in-Text
returns-in-Text c = rw c.in-Text.is (c.word_at.ensures ∙ sym (words_of_text-at _ _ _ (within _ _ _ c.requires.0)))
