-- The promise of `read_frame` allows one answer only: what is read says which answer it was. Every other public promise of the crate is an
-- equation for the result, or for each part of it. Assumes nothing.
use mathlib.Core.Path.{◌≡◌, refl, sym, ap, ◌∙◌}
use mathlib.Core.List.{List}
use Prim.Native.Nat.{ℕ}
use lib.ListN.{length, get_or}
use Rattle.mewtocol_requests.specs.Requests.{Request, read_contacts, write_contacts, read_range, write_range, fill}
use Rattle.mewtocol_requests.specs.Reading.{Reading, faulty, request}
use Rattle.mewtocol_requests.specs.Code.{front, request_of, reading_of, words_in, ReadsAs}
use Rattle.mewtocol_requests.specs.declared.Request as code-request
use Rattle.mewtocol_requests.specs.declared.Request.TheVariants.{ReadContacts, WriteContacts, ReadRange, WriteRange, Fill}
use Rattle.mewtocol_requests.specs.declared.Reading as code-reading
use Rattle.mewtocol_requests.specs.declared.Reading.TheVariants.{Faulty, Asks}
use Rattle.mewtocol_steps.proofs.OneAnswer.{error_back, error-back}
use Rattle.mewtocol_requests.proofs.Lists.{repeated-length, paired-length}

front_length : (n : ℕ) (xs : List ℕ) → length (front n xs) ≡ n
front_length n xs = repeated-length n 1 (λ (s : List ℕ). get_or s 0 0) xs

-- the answer that says this
abbrev request_back : Request → code-request.Request
request_back (read_contacts cs) = ReadContacts (length cs)
request_back (write_contacts ss) = WriteContacts (length ss)
request_back (read_range a s e) = ReadRange a s e
request_back (write_range a s e ws) = WriteRange a s e
request_back (fill s e w) = Fill s e w

abbrev reading_back : Reading → code-reading.Reading
reading_back (faulty k) = Faulty (error_back k)
reading_back (request q) = Asks (request_back q)

request-back : (q : code-request.Request) (c v : List ℕ) (ws : ℕ → List ℕ) → request_back (request_of q c v ws) ≡ q
request-back (ReadContacts n) c v ws = ap ReadContacts (front_length n c)
request-back (WriteContacts n) c v ws = ap WriteContacts (paired-length (front n c) v ∙ front_length n c)
request-back (ReadRange a s e) c v ws = refl
request-back (WriteRange a s e) c v ws = refl
request-back (Fill s e w) c v ws = refl

reading-back : (r : code-reading.Reading) (c v t : List ℕ) → reading_back (reading_of r c v t) ≡ r
reading-back (Faulty e) c v t = ap Faulty (error-back e)
reading-back (Asks q) c v t = ap Asks (request-back q c v (words_in t))

pub one_answer : (o : Reading) (t : List ℕ) (a b : code-reading.Reading) (c v ca va cb vb : List ℕ) → ReadsAs o t a c v ca va → ReadsAs o t b c v cb vb → (a ≡ b) × (ca ≡ cb) × (va ≡ vb)
one_answer o t a b c v ca va cb vb p q = (
  sym (reading-back a ca va t) ∙ ap reading_back (p.says 0 t refl ∙ sym (q.says 0 t refl)) ∙ reading-back b cb vb t,
  p.contacts-are ∙ sym q.contacts-are,
  p.values-are ∙ sym q.values-are,
)
