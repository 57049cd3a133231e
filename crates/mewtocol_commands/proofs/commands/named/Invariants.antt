-- The invariant: the answer of the whole table is that of the rows that are left. Assumes nothing.
use mathlib.Core.Path.{◌≡◌}
use lib.ListN.{drop}
use Rattle.mewtocol_commands.specs.Commands.{commands, named}
use Rattle.mewtocol_commands.proofs.commands.named.Given as goal

abbrev pub invariant-loop-c : goal.invariant-loop-c
invariant-loop-c l = named (drop l.c-index commands) l.text ≡ named commands l.text
