-- An error or a good reply, and nothing else. Assumes nothing.
use mathlib.Core.Path.{◌≡◌, refl, ap}
use mathlib.Core.List.{List}
use mathlib.Core.Logic.{◌⊎◌, inl, inr}
use Prim.Native.Nat.{ℕ}
use Rattle.table_registers.specs.declared.Verdict.{Verdict}
use Rattle.table_registers.specs.declared.Verdict.TheVariants.{Granted, Lacking, Unfit}
use Rattle.table_registers.specs.Operation.{Judge}
use Rattle.station.specs.Site.{Done, done}
use Rattle.station.proofs.Done.{done-granted, done-lacking, done-unfit}
use Rattle.mewtocol_frame.specs.declared.Limits.{Limits}
use Rattle.mewtocol_requests.specs.Requests.{Request}
use Rattle.mewtocol_requests.specs.Reading.{Reading, faulty, request}
use Rattle.mewtocol_requests.specs.Hearing.{read_frame}
use Rattle.mewtocol_requests.specs.Sound.{StepError, Answerable}
use Rattle.mewtocol_requests.proofs.Sound.{frame-answerable}
use Rattle.mewtocol_station.specs.Replies.{operation_of, reply_of}
use Rattle.mewtocol_station.specs.Station.{errors, reading_asks}
use Rattle.mewtocol_station.specs.Statements.{ErrorNumber, Error, Good, ErrorOrGood}

of_steps : (n : ℕ) → (n ≡ 0x40) ⊎ StepError n → ErrorNumber n
of_steps n (inl e) = inl e
of_steps n (inr (inl e)) = inr (inl e)
of_steps n (inr (inr (inl e))) = inr (inr (inl e))
of_steps n (inr (inr (inr (inl e)))) = inr (inr (inr (inl e)))
of_steps n (inr (inr (inr (inr e)))) = inr (inr (inr (inr (inl e))))

module _ (l : Limits) (judge : Judge) (words frame : List ℕ) where
  abbrev left : Reading → Done
  left r = done errors judge words (reading_asks r)

  verdict-decides : (q : Request) (v : Verdict) → read_frame l frame ≡ request q → judge words (operation_of q) ≡ v → Error l judge words frame (left (request q)) ⊎ Good l judge words frame (left (request q))
  verdict-decides q Granted is e =
      let d = done-granted errors judge words (operation_of q) (reply_of q) e in
      inr (record { asked = q; asked_is = is; granted = e; says_is = ap (λ (x : Done). x.says) d; words-is = ap (λ (x : Done). x.words) d })
  verdict-decides q (Lacking i) is e =
      let d = done-lacking errors judge words (operation_of q) (reply_of q) i e in
      inl (record { number = 0x66; one-of-six = inr (inr (inr (inr (inr refl)))); reason = inr (inl (record { asked = q; asked_is = is; place = i; lacking = e; number_is = refl })); says_is = ap (λ (x : Done). x.says) d; words-stay = ap (λ (x : Done). x.words) d })
  verdict-decides q Unfit is e =
      let d = done-unfit errors judge words (operation_of q) (reply_of q) e in
      inl (record { number = 0x61; one-of-six = inr (inr (inr (inr (inl refl)))); reason = inr (inr (record { asked = q; asked_is = is; unfit = e; number_is = refl })); says_is = ap (λ (x : Done). x.says) d; words-stay = ap (λ (x : Done). x.words) d })

  reading-decides : (r : Reading) → read_frame l frame ≡ r → Answerable l r → Error l judge words frame (left r) ⊎ Good l judge words frame (left r)
  unfolding done
  reading-decides (faulty n) is h = inl (record { number = n; one-of-six = of_steps n h; reason = inl is; says_is = refl; words-stay = refl })
  reading-decides (request q) is h = verdict-decides q (judge words (operation_of q)) is refl

pub error-or-good : ErrorOrGood
error-or-good l judge words frame = reading-decides l judge words frame (read_frame l frame) refl (frame-answerable l frame)
