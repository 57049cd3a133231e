-- What the data says is what the table held: a run that is granted lies in the table, and its text says it word by word. Assumes nothing.
use mathlib.Core.Path.{◌≡◌, refl, sym, ap, subst, ◌∙◌}
use mathlib.Core.List.{List}
use Prim.Native.Nat.{ℕ, ◌+◌, ◌≤◌, ◌<◌}
use native.Mathlib.Omega.{arith}
use lib.ListN.{length, take, drop, get_or}
use Rattle.table_addresses.specs.Areas.{word_in}
use Rattle.table_addresses.specs.declared.Area.{Area}
use Rattle.table_addresses.specs.declared.Area.TheVariants.{Relays, Registers}
use Rattle.table_registers.specs.Operation as operation
use Rattle.table_registers.specs.Operation.{read_words, address_check}
use Rattle.table_registers.specs.declared.Verdict.TheVariants.{Granted}
use Rattle.table_registers.specs.declared.Profile.{Profile}
use Rattle.table_registers.specs.Profile.{takes, verdict}
use Rattle.table_registers.proofs.Profiles.{fitting-granted}
use Rattle.table_registers.proofs.Lacking.{run_in}
use Rattle.text_digits.specs.declared.Number.TheVariants.{Value}
use Rattle.mewtocol_frame.specs.Text.{span}
use Rattle.mewtocol_requests.specs.Requests.{read_range}
use Rattle.mewtocol_station.specs.Replies.{operation_of}
use Rattle.theorems_mewtocol.specs.Pair.{decided, HeldWords, HeldContacts}
use Rattle.theorems_mewtocol.proofs.Data.{words-say, run_at, run_length, contacts-say}

-- the word of a number further on
word_on : (area : Area) (s i : ℕ) → word_in area s + i ≡ word_in area (s + i)
word_on Relays s i = omega arith
word_on Registers s i = refl

pub range-in : (p : Profile) (words attributes : List ℕ) (area : Area) (s e : ℕ) → s ≤ e → decided (verdict p attributes) words (read_range area s e) ≡ Granted → word_in area s + span s e ≤ length words
unfolding operation_of address_check
range-in p words us area s e order granted =
    let o = read_words area (word_in area s) (span s e) in
    run_in (length words) us area 1 (word_in area s) (span s e) (fitting-granted (takes p o (operation.after o words)) (address_check us (length words) o) granted).1 (omega arith)

pub held-words : HeldWords
unfolding operation_of operation.shows
held-words p words us area s e i small granted order =
    let k = word_in area s in
    let n = span s e in
    let at = run_at words k n i (omega arith) in
    words-say (take n (drop k words)) i (omega (arith, run_length words k n (range-in p words us area s e (omega arith) granted))) (subst (λ (v : ℕ). v < 65536) (sym at) (small (k + i)))
    ∙ ap Value (at ∙ ap (λ (j : ℕ). get_or words j 0) (word_on area s i))

pub held-contacts : HeldContacts
unfolding operation_of operation.shows
held-contacts words cs i h = contacts-say words cs i h
