-- Each arm is one answer; the data of a frame that shows any stands behind six characters. Assumes nothing.
use mathlib.Core.Path.{◌≡◌, sym, ap, ◌∙◌}
use mathlib.Core.List.{List}
use Prim.Native.Nat.{ℕ, ◌+◌, ◌-◌, ◌≤◌}
use native.Mathlib.Omega.{arith}
use lib.ListN.{length, take, drop}
use Rattle.mewtocol_frame.specs.declared.Limits.{Limits}
use Rattle.mewtocol_asking.specs.Asking.{Asking}
use Rattle.mewtocol_reader.specs.Replies.{Read, shows, read, data_of, read_of, bytes_of, place_of, Part}
use Rattle.mewtocol_reader.specs.declared.Reply.{Reply}
use Rattle.mewtocol_reader.proofs.Shows.{shown-long, data-at}
use Rattle.mewtocol_reader.proofs.reply_data.Goals as goal

-- what the reader's answer says of the frame
told : (f : List ℕ) (r s : Reply) (x : Read) → read_of r f ≡ x → r ≡ s → x ≡ read_of s f
told f r s x e h = sym e ∙ ap (λ (y : Reply). read_of y f) h

-- the part is that of what was read
part_of : (x y : Read) (start : ℕ × ℕ) (bytes : List ℕ) → x ≡ y → bytes ≡ bytes_of y → Part x start bytes (place_of y start)
part_of x y start bytes e b = record { bytes-are = b ∙ ap bytes_of (sym e); place_is = ap (λ (r : Read). place_of r start) (sym e) }

part : (l : Limits) (from : ℕ) (a : Asking) (f : List ℕ) (start : ℕ × ℕ) → read l from a f ≡ shows (data_of f)
    → Part (read l from a f) start (take (length f - 3 - 6) (drop 6 f)) (start.0, 6 + start.1)
part l from a f start e =
    let n : length f - 3 - 6 ≡ length f - 9 = omega arith in
    part_of (read l from a f) (shows (data_of f)) start _ e
    (ap (λ (k : ℕ). take k (drop 6 f)) n ∙ sym (data-at f (shown-long l from a f (data_of f) e)))

long : (l : Limits) (from : ℕ) (a : Asking) (f : List ℕ) → read l from a f ≡ shows (data_of f) → 9 ≤ length f
long l from a f e = shown-long l from a f (data_of f) e

-- a part's start and its end
ordered : {a b : ℕ} → a ≤ b → a ≤ b
ordered h = h

pub overflow_sub-result : goal.overflow_sub-result
overflow_sub-result c = omega (arith, long _ _ _ _ (told _ _ _ _ c.read_reply.ensures c.in-Shows.is))

pub slice_bounds-result-count : goal.slice_bounds-result-count
slice_bounds-result-count c = omega (arith, long _ _ _ _ (told _ _ _ _ c.read_reply.ensures c.in-Shows.is))

pub slice_bounds-result-start : goal.slice_bounds-result-start
slice_bounds-result-start c = ordered (omega (arith, long _ _ _ _ (told _ _ _ _ c.read_reply.ensures c.in-Shows.is)))

pub returns-in-Shows : goal.returns-in-Shows
returns-in-Shows c = part _ _ _ _ _ (told _ _ _ _ c.read_reply.ensures c.in-Shows.is)
