-- The same body in either frame, received and answered alike. Assumes nothing.
use mathlib.Core.Path.{◌≡◌, refl, sym, ap, ap₂, ◌∙◌}
use mathlib.Core.Bool.{true}
use mathlib.Core.List.{List, [], ◌∷◌, ◌++◌, append_assoc}
use Prim.Native.Nat.{ℕ, ◌+◌, ◌-◌, ◌≤◌, ◌<◌}
use native.Mathlib.Nat.{mod-lt}
use native.Mathlib.Omega.{arith}
use borrow.Author.Tests.{le-leb, eq-eqb}
use lib.Dec.{lit<}
use lib.ListN.{length, get_or, drop, length-append}
use lib.Seq.{take_at}
use Rattle.rules.specs.Choice.{between, all_between}
use Rattle.rules.specs.Characters.{CR, LF}
use Rattle.text_rooms.specs.Room.{overwrite, each}
use Rattle.text_digits.specs.Digits.{with_number, running, digits_in}
use Rattle.text_digits.specs.declared.Number.{Number}
use Rattle.text_hex.specs.Hex.{hex_value, hex_digit, hex_byte}
use Rattle.text_hex.proofs.Back.{hex-back, hex_byte-cells}
use Rattle.checks_shared.specs.Fold.{fold}
use Rattle.checks_shared.specs.Line.{Bytes}
use Rattle.checks_shared.proofs.Bits.{bytes-by}
use Rattle.checks_lrc.specs.Lrc.{lrc_of, right_lrc}
use Rattle.checks_lrc.proofs.Closing.{lrc-closes}
use Rattle.checks_crc.specs.Crc.{crc_bytes}
use Rattle.checks_crc.proofs.Closing.{right-crc-of}
use Rattle.table_registers.specs.Table.{grants, allows, up_from, checked}
use Rattle.table_registers.specs.Operation as operation
use Rattle.table_registers.specs.Operation.{address_check, shows, words_after}
use Rattle.table_registers.specs.Profile.{takes}
use Rattle.table_registers.specs.declared.Profile.TheVariants.{Free}
use Rattle.station.specs.Site.{Site, site_of, said, done}
use Rattle.station.specs.Station.{received}
use Rattle.modbus_body.specs.Bytes.{word_at}
use Rattle.modbus_body.specs.Body.{asks_by, body_asks, reply_body}
use Rattle.modbus_counters.specs.Diagnosis.{after}
use Rattle.modbus_counters.specs.declared.Counters.{Counters}
use Rattle.modbus_line.specs.Framing.{Framing, line_asks, whom_at}
use Rattle.modbus_line.specs.Calls.{fate, left}
use Rattle.modbus_rtu.specs.Rtu.{rtu_frame, rtu}
use Rattle.modbus_ascii.specs.Ascii.{hex_pairs, byte_or0, pair_bytes, bytes_of, body_in, with_lrc, text_frame, ascii}
use Rattle.theorems_modbus.specs.Statements.{ReadBack, Gets, SameBody, example, Example}
use Rattle.theorems_modbus.proofs.Texts.{counts, split, text_frame-good}

byte-back : (b : ℕ) (t : List ℕ) → b < 256 → byte_or0 (hex_byte b ++ t) ≡ b
unfolding byte_or0
byte-back b t h = ap (λ (n : Number). with_number n (λ v. v) 0) (hex-back 2 b t (omega arith))

past-byte : (b : ℕ) (t : List ℕ) → drop 2 (hex_byte b ++ t) ≡ t
past-byte b t = ap (λ (l : List ℕ). drop 2 (l ++ t)) (hex_byte-cells b)

pairs-back : (bs t : List ℕ) → Bytes bs → pair_bytes (length bs) (hex_pairs bs ++ t) ≡ bs
unfolding each pair_bytes Bytes
pairs-back [] t h = refl
pairs-back (b ∷ bs) t h =
    ap (λ (l : List ℕ). byte_or0 l ∷ pair_bytes (length bs) (drop 2 l)) (append_assoc (hex_byte b) (hex_pairs bs) t)
    ∙ ap₂ (λ (x : ℕ) (l : List ℕ). x ∷ pair_bytes (length bs) l) (byte-back b (hex_pairs bs ++ t) h.0) (past-byte b (hex_pairs bs ++ t))
    ∙ ap (λ (l : List ℕ). b ∷ l) (pairs-back bs t h.1)

pub read_back : ReadBack
read_back bs h low high =
    ap₂ (λ (n : ℕ) (l : List ℕ). pair_bytes n (drop 1 l)) (counts bs low high) (split bs low high) ∙ pairs-back bs (CR ∷ LF ∷ []) h

bytes-snoc : (bs : List ℕ) (x : ℕ) → Bytes bs → x < 256 → Bytes (bs ++ (x ∷ []))
unfolding Bytes
bytes-snoc [] x h k = (k, tt)
bytes-snoc (b ∷ bs) x h k = (h.0, bytes-snoc bs x h.1 k)

module _ (m : Framing) (c : Counters) (site : Site) (words body room : List ℕ) where
  abbrev frame : List ℕ
  frame = m.framed site.own body

  -- a frame that is right and for this station, and whose body is this one
  gets : m.shape frame ≡ true → m.check frame ≡ true → m.to frame ≡ site.own → m.body frame ≡ body → Gets m c site words body room
  unfolding received whom_at fate left after
  gets shape check to is = record {
    counts = rw (shape, check, to, eq-eqb site.own site.own refl);
    answer = rw (shape, check, to, eq-eqb site.own site.own refl, is);
    leaves = rw (shape, check, to, eq-eqb site.own site.own refl, is);
  }

rtu-same : (c : Counters) (site : Site) (words body room : List ℕ) → 1 ≤ length body → length body ≤ 253 → Gets rtu c site words body room
unfolding between
rtu-same c site words body room low high =
    let own : ℕ = site.own in
    let f : List ℕ = rtu_frame own body in
    let n : length f ≡ length body + 3 = omega (arith, length-append (own ∷ body) (crc_bytes (own ∷ body))) in
    let e : length f - 3 ≡ length body = omega (arith, n) in
    gets rtu c site words body room (rw (le-leb 4 (length f) (omega (arith, n)), le-leb (length f) 256 (omega (arith, n)))) (right-crc-of (own ∷ body)) refl
    (take_at body (crc_bytes (own ∷ body)) (length f - 3) (sym e))

ascii-same : (c : Counters) (site : Site) (words body room : List ℕ) → site.own < 256 → Bytes body → 1 ≤ length body → length body ≤ 253
    → Gets ascii c site words body room
unfolding Bytes
ascii-same c site words body room small h low high =
    let own : ℕ = site.own in
    let bs : List ℕ = with_lrc own body in
    let n : length bs ≡ length body + 2 = omega (arith, length-append (own ∷ body) (lrc_of (own ∷ body) ∷ [])) in
    let e : length bs - 2 ≡ length body = omega (arith, n) in
    let b : body_in bs ≡ body = take_at body (lrc_of (own ∷ body) ∷ []) (length bs - 2) (sym e) in
    let r : bytes_of (text_frame bs) ≡ bs = read_back bs (bytes-snoc (own ∷ body) (lrc_of (own ∷ body)) (small, h) (mod-lt _ (lit< tt))) (omega (arith, n)) (omega (arith, n)) in
    gets ascii c site words body room (text_frame-good bs (omega (arith, n)) (omega (arith, n))) (ap right_lrc r ∙ lrc-closes (own ∷ body)) (ap (λ (l : List ℕ). get_or l 0 0) r)
    (ap body_in r ∙ b)

pub same_body : SameBody
same_body c site words body room small h low high = (rtu-same c site words body room low high, ascii-same c site words body room small h low high)

-- ---- an instance

example-bytes : Bytes example
unfolding all_between between
example-bytes = bytes-by example refl

pub an-example : Example
unfolding overwrite each all_between between fold digits_in hex_digit pair_bytes byte_or0 running hex_value body_asks asks_by word_at done said takes address_check checked allows grants up_from operation.after words_after shows reply_body line_asks
an-example = record {
  meets = (example-bytes, omega arith, omega arith);
  same = λ c room. same_body c (site_of (3 ∷ 3 ∷ []) Free 1) (0 ∷ 0 ∷ []) example room (omega arith) example-bytes (omega arith) (omega arith);
  done = λ c. refl;
  back = (bytes-by (with_lrc 1 example) refl, refl);
}
