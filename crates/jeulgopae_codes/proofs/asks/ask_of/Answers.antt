-- Each number is its command. Assumes nothing.
use mathlib.Core.Path.{◌≡◌, sym, ap}
use Prim.Native.Nat.{ℕ}
use borrow.Author.Tests.{ne_eqb}
use Rattle.jeulgopae_codes.specs.Asks.{ask_of}
use Rattle.jeulgopae_codes.proofs.asks.ask_of.Goals as goal

-- a number that is known says which command it is
named : (n first second value : ℕ) {k : ℕ} → n ≡ k → ask_of k first second value ≡ ask_of n first second value
named n first second value e = sym (ap (λ (k : ℕ). ask_of k first second value) e)

pub returns-in-1 : goal.returns-in-1
unfolding ask_of
returns-in-1 c = named c.args.command c.args.first c.args.second c.args.value c.in-1.is

pub returns-in-2 : goal.returns-in-2
unfolding ask_of
returns-in-2 c = named c.args.command c.args.first c.args.second c.args.value c.in-2.is

pub returns-in-3 : goal.returns-in-3
unfolding ask_of
returns-in-3 c = named c.args.command c.args.first c.args.second c.args.value c.in-3.is

pub returns-in-4 : goal.returns-in-4
unfolding ask_of
returns-in-4 c = named c.args.command c.args.first c.args.second c.args.value c.in-4.is

pub returns-in-5 : goal.returns-in-5
unfolding ask_of
returns-in-5 c = named c.args.command c.args.first c.args.second c.args.value c.in-5.is

pub returns-in-6 : goal.returns-in-6
unfolding ask_of
returns-in-6 c = named c.args.command c.args.first c.args.second c.args.value c.in-6.is

pub returns-in-7 : goal.returns-in-7
unfolding ask_of
returns-in-7 c = named c.args.command c.args.first c.args.second c.args.value c.in-7.is

pub returns-in-8 : goal.returns-in-8
unfolding ask_of
returns-in-8 c = named c.args.command c.args.first c.args.second c.args.value c.in-8.is

pub returns-in_default : goal.returns-in_default
unfolding ask_of
returns-in_default c = let r = c.in_default.in_default-own.rest in rw (ne_eqb _ 1 r.0.0.0.0.0.0.0.1, ne_eqb _ 2 r.0.0.0.0.0.0.1, ne_eqb _ 3 r.0.0.0.0.0.1, ne_eqb _ 4 r.0.0.0.0.1, ne_eqb _ 5 r.0.0.0.1, ne_eqb _ 6 r.0.0.1, ne_eqb _ 7 r.0.1, ne_eqb _ 8 r.1)
