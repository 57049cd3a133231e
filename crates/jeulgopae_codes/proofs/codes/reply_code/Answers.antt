-- Each case is its number; data is counted by the frame's length. Assumes nothing.
use mathlib.Core.Path.{◌≡◌, sym, ap, ◌∙◌}
use mathlib.Core.List.{List}
use Prim.Native.Nat.{ℕ, ◌-◌, ◌≤◌}
use native.Mathlib.Omega.{arith}
use lib.IntN.{pos}
use lib.ListN.{length, drop, length-take, length-drop}
use Rattle.mewtocol_frame.specs.Frame.{text_of}
use Rattle.mewtocol_reader.specs.Replies.{read_of, data_of}
use Rattle.mewtocol_reader.specs.declared.Reply.{Reply}
use Rattle.jeulgopae_codes.specs.Codes.{reply_code}
use Rattle.jeulgopae_codes.proofs.Signed.{out}
use Rattle.jeulgopae_codes.proofs.codes.reply_code.Goals as goal

-- the data of a reply is all but nine characters
data-length : (f : List ℕ) → 9 ≤ length f → length f - 9 ≡ length (data_of f)
data-length f h =
    omega (arith, h, length-drop 2 (text_of f), length-take (length f - 7) (drop 4 f), length-drop 4 f)

pub overflow_sub-frame : goal.overflow_sub-frame
overflow_sub-frame c = let f = c.args.frame.now in omega (arith, (c.requires.0 _ (ap (λ (r : Reply). read_of r f) c.in-Shows.is)).0)

pub number-requires : goal.number-requires
number-requires c = let f = c.args.frame.now in omega (arith, c.requires.0 _ (ap (λ (r : Reply). read_of r f) c.in-Shows.is))

pub place_code-requires : goal.place_code-requires
place_code-requires c = let f = c.args.frame.now in omega (arith, c.requires.1 _ (ap (λ (r : Reply). read_of r f) c.in-NotAsked.is))

pub returns-in-Shows : goal.returns-in-Shows
returns-in-Shows c =
    let f = c.args.frame.now in
    out (record { sfits = c.number.type_inv })
    (c.number.ensures ∙ ap pos (data-length f (c.requires.0 _ (ap (λ (r : Reply). read_of r f) c.in-Shows.is)).0)
    ∙ sym (ap (λ (r : Reply). reply_code (read_of r f)) c.in-Shows.is))
