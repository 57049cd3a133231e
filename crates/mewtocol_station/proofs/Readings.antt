-- What the code read of a frame, in one of its two ways, is what the frame asks. Assumes nothing.
use Prim.Native.Nat.{ℕ}
use mathlib.Core.List.{List}
use mathlib.Core.Path.{◌≡◌, sym, ap, subst, ◌∙◌}
use Rattle.table_registers.specs.Operation.{Judge}
use Rattle.station.specs.Site.{Asked, done}
use Rattle.mewtocol_frame.specs.declared.Limits.{Limits}
use Rattle.mewtocol_frame.specs.Frame.{text_of}
use Rattle.mewtocol_requests.specs.declared.Reading as code
use Rattle.mewtocol_requests.specs.declared.Reading.TheVariants.{Faulty, Asks}
use Rattle.mewtocol_requests.specs.declared.Request as code-request
use Rattle.mewtocol_steps.specs.Steps.{number}
use Rattle.mewtocol_steps.specs.declared.MewtocolError.{MewtocolError}
use Rattle.mewtocol_requests.specs.Requests.{Request}
use Rattle.mewtocol_requests.specs.Reading.{faulty, request}
use Rattle.mewtocol_requests.specs.Hearing.{read_frame}
use Rattle.mewtocol_requests.specs.Code.{request_of, reading_of, words_in}
use Rattle.mewtocol_requests.specs.Sound.{Sound, Answerable}
use Rattle.mewtocol_requests.proofs.Sound.{frame-answerable}
use Rattle.mewtocol_station.specs.Station.{errors, reading_asks}

module _ (l : Limits) (f cs vs : List ℕ) (r : code.Reading) (says : reading_of r cs vs (text_of f) ≡ read_frame l f) where
  -- the reading, in the way that the code went
  told : (r' : code.Reading) → r ≡ r' → read_frame l f ≡ reading_of r' cs vs (text_of f)
  told r' e = sym says ∙ ap (λ (x : code.Reading). reading_of x cs vs (text_of f)) e

  abbrev request_is : code-request.Request → Request
  request_is q = request_of q cs vs (words_in (text_of f))

  pub asked-faulty : (e : MewtocolError) → r ≡ Faulty e → reading_asks (read_frame l f) ≡ reading_asks (faulty (number e))
  asked-faulty e h = ap reading_asks (told (Faulty e) h)

  pub asked-request : (q : code-request.Request) → r ≡ Asks q → reading_asks (read_frame l f) ≡ reading_asks (request (request_is q))
  asked-request q h = ap reading_asks (told (Asks q) h)

  pub asked-sound : (q : code-request.Request) → r ≡ Asks q → Sound l (request_is q)
  asked-sound q h = subst (Answerable l) (told (Asks q) h) (frame-answerable l f)

-- what is left by what is asked is left by what was read
pub left_by : (judge : Judge) (words : List ℕ) {a b : Asked} → a ≡ b → done errors judge words a ≡ done errors judge words b
left_by judge words e = ap (λ (x : Asked). done errors judge words x) e
