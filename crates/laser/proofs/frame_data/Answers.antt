-- The part is the data of what was read. Assumes nothing.
use mathlib.Core.Path.{◌≡◌, sym, ap, ◌∙◌}
use Prim.Native.Nat.{ℕ, ◌+◌, ◌-◌, ◌≤◌}
use mathlib.Core.List.{List}
use native.Mathlib.Omega.{arith}
use lib.ListN.{length, take, drop}
use Rattle.laser.specs.Frame.{Read, frame, read, bytes_of, place_of, Part}
use Rattle.laser.proofs.ReadFrames.{read_is, told}
use Rattle.laser.proofs.frame_data.Goals as goal

-- what was read says what the part is and where it stands
part : (f : List ℕ) (a b : ℕ) (start : ℕ × ℕ) → read f ≡ frame a b (bytes_of (read f)) → Part (read f) start (take (length f - 3 - 5) (drop 5 f)) (start.0, 5 + start.1)
part f a b start e =
    let n : length f - 3 - 5 ≡ length f - 8 = omega arith in
    record {
      bytes-are = ap (λ (k : ℕ). take k (drop 5 f)) n ∙ sym (read_is f a b _ e).0;
      place_is = ap (λ (r : Read). place_of r start) (sym e);
    }

-- a frame that is read has eight characters
long : (f : List ℕ) (a b : ℕ) → read f ≡ frame a b (bytes_of (read f)) → 8 ≤ length f
long f a b e = (read_is f a b _ e).1

-- a part's start and its end
ordered : {a b : ℕ} → a ≤ b → a ≤ b
ordered h = h

pub overflow_sub-result : goal.overflow_sub-result
overflow_sub-result c = omega (arith, long _ _ _ (told _ _ _ c.read_frame.ensures c.in-Frame.is))

pub slice_bounds-result-count : goal.slice_bounds-result-count
slice_bounds-result-count c = omega (arith, long _ _ _ (told _ _ _ c.read_frame.ensures c.in-Frame.is))

pub slice_bounds-result-start : goal.slice_bounds-result-start
slice_bounds-result-start c = ordered (omega (arith, long _ _ _ (told _ _ _ c.read_frame.ensures c.in-Frame.is)))

pub returns-in-Frame : goal.returns-in-Frame
returns-in-Frame c = part _ _ _ _ (told _ _ _ c.read_frame.ensures c.in-Frame.is)
