-- An operation by the numbers, lists and text that the code holds is the operation that the request asks for. Assumes nothing.
use mathlib.Core.Path.{◌≡◌, refl, sym, ap, ap₂, ◌∙◌}
use mathlib.Core.List.{List, [], ◌∷◌, ◌++◌, map}
use Prim.Native.Nat.{ℕ, zero, suc, ◌≤◌}
use native.Mathlib.Omega.{arith}
use lib.ListN.{length, take, drop, get_or}
use Rattle.table_addresses.specs.Areas.{contact_cell, word_in}
use Rattle.table_addresses.specs.declared.Area.{Area}
use Rattle.table_addresses.specs.declared.Area.TheVariants.{Relays}
use Rattle.table_registers.specs.declared.Verdict.{Verdict}
use Rattle.table_registers.specs.Table.{allows, up_from, checked}
use Rattle.table_registers.specs.Bits.{on_of, words_of}
use Rattle.table_registers.specs.Operation.{read_words, read_bits, write_words, fill_words, write_bits, words_of_text, Carried, address_check, after, shows}
use Rattle.table_registers.specs.Profile.{verdict}
use Rattle.table_registers.specs.declared.Profile.{Profile}
use Rattle.table_registers.proofs.Profiles.{read-judged}
use Rattle.table_registers.proofs.Done.{words_after-read}
use Rattle.mewtocol_frame.specs.Text.{span}
use Rattle.mewtocol_commands.specs.declared.Field.TheVariants.{Word}
use Rattle.mewtocol_commands.specs.Fields.{amount}
use Rattle.mewtocol_commands.specs.Rows.{repeated}
use Rattle.mewtocol_requests.specs.Requests.{Request, read_contacts, write_contacts, read_range, write_range, fill, contacts_in, values_in}
use Rattle.mewtocol_requests.specs.Code.{paired, front, data_in, words_in}
use Rattle.mewtocol_requests.proofs.Lists.{words-repeated}
use Rattle.rules.specs.Characters.{letter_c, letter_r}
use Rattle.table_registers.specs.Bits.{cell_at}
use Rattle.station.specs.Site.{good}
use Rattle.mewtocol_frame.specs.Text.{words_text}
use Rattle.mewtocol_requests.specs.Requests.{name_letter}
use Rattle.mewtocol_station.specs.Replies.{operation_of, contacts_text, reply_of, reply_frame}

-- ---- lists

pub front_length : (n : ℕ) (xs : List ℕ) → length (front n xs) ≡ n
unfolding repeated
front_length zero xs = refl
front_length (suc n) xs = ap suc (front_length n (drop 1 xs))

pub front-take : (n : ℕ) (xs : List ℕ) → n ≤ length xs → front n xs ≡ take n xs
unfolding repeated
front-take zero xs h = refl
front-take (suc n) [] h = absurd (omega arith)
front-take (suc n) (x ∷ xs) h = ap (λ (t : List ℕ). x ∷ t) (front-take n xs (omega arith))

pub paired-contacts : (cs vs : List ℕ) → contacts_in (paired cs vs) ≡ cs
unfolding paired
paired-contacts [] vs = refl
paired-contacts (c ∷ cs) vs = ap (λ (t : List ℕ). c ∷ t) (paired-contacts cs (drop 1 vs))

pub paired-values : (cs vs : List ℕ) → values_in (paired cs vs) ≡ front (length cs) vs
unfolding paired repeated
paired-values [] vs = refl
paired-values (c ∷ cs) vs = ap (λ (t : List ℕ). get_or vs 0 0 ∷ t) (paired-values cs (drop 1 vs))

pub paired-length : (cs vs : List ℕ) → length (paired cs vs) ≡ length cs
unfolding paired
paired-length [] vs = refl
paired-length (c ∷ cs) vs = ap suc (paired-length cs (drop 1 vs))

text-repeated : (n : ℕ) (s : List ℕ) → words_of_text n s ≡ repeated n 4 (amount Word) s
unfolding words_of_text repeated
text-repeated zero s = refl
text-repeated (suc n) s = ap (λ (t : List ℕ). amount Word s ∷ t) (text-repeated n (drop 4 s))

-- ---- operations

-- a read changes no word: its verdict alone says what becomes of it
pub contacts-carried : (p : Profile) (words us contacts : List ℕ) (n : ℕ) (v : Verdict) → n ≤ length contacts → v ≡ checked (allows (length words) us Relays 1) 0 (words_of (map contact_cell (take n contacts)))
    → Carried (operation_of (read_contacts (front n contacts))) words (verdict p us) v words
unfolding operation_of address_check after
contacts-carried p words us contacts n v h e = record {
  verdict-is = e ∙ ap (λ (cs : List ℕ). checked (allows (length words) us Relays 1) 0 (words_of (map contact_cell cs))) (sym (front-take n contacts h)) ∙ sym (read-judged p us words (read_bits (map contact_cell (front n contacts))) refl);
  words-is = sym (words_after-read (verdict p us words (read_bits (map contact_cell (front n contacts)))) (read_bits (map contact_cell (front n contacts))) words refl);
}

pub range-carried : (p : Profile) (words us : List ℕ) (a : Area) (s e first count : ℕ) (v : Verdict) → first ≡ word_in a s → count ≡ span s e → v ≡ checked (allows (length words) us a 1) 0 (up_from first count)
    → Carried (operation_of (read_range a s e)) words (verdict p us) v words
unfolding operation_of address_check after
range-carried profile words us a s e first count v p q h = record {
  verdict-is = h ∙ ap₂ (λ (k n : ℕ). checked (allows (length words) us a 1) 0 (up_from k n)) p q ∙ sym (read-judged profile us words (read_words a (word_in a s) (span s e)) refl);
  words-is = sym (words_after-read (verdict profile us words (read_words a (word_in a s) (span s e))) (read_words a (word_in a s) (span s e)) words refl);
}

pub settings-are : (n : ℕ) (contacts values : List ℕ) → n ≤ length contacts → n ≤ length values
    → write_bits (map contact_cell (take n contacts)) (map on_of (take n values)) ≡ operation_of (write_contacts (paired (front n contacts) values))
unfolding operation_of
settings-are n contacts values hc hv =
    ap₂ (λ (cs vs : List ℕ). write_bits (map contact_cell cs) (map on_of vs))
    (sym (paired-contacts (front n contacts) values ∙ front-take n contacts hc))
    (sym (paired-values (front n contacts) values ∙ ap (λ (k : ℕ). front k values) (front_length n contacts) ∙ front-take n values hv))

pub written-are : (a : Area) (s e first count : ℕ) (t text : List ℕ) → first ≡ word_in a s → count ≡ span s e → text ≡ data_in count t
    → write_words a first (words_of_text count text) ≡ operation_of (write_range a s e (words_in t (span s e)))
unfolding operation_of words_in
written-are a s e first count t text p q r =
    ap₂ (λ (k : ℕ) (ws : List ℕ). write_words a k ws) p
    (ap (words_of_text count) r ∙ text-repeated count (data_in count t) ∙ sym (words-repeated count (data_in count t)) ∙ ap (λ (n : ℕ). words_in t n) q)

pub filled-are : (s e w first count : ℕ) → first ≡ s → count ≡ span s e → fill_words first count w ≡ operation_of (fill s e w)
unfolding operation_of
filled-are s e w first count p q = ap₂ (λ (k n : ℕ). fill_words k n w) p q

-- what an operation shows it shows of the words after it too: a read changes none, and a write shows none
pub shows-after : (q : Request) (words : List ℕ) → shows (operation_of q) (after (operation_of q) words) ≡ shows (operation_of q) words
unfolding operation_of after shows
shows-after (read_contacts cs) words = refl
shows-after (write_contacts ss) words = refl
shows-after (read_range a s e) words = refl
shows-after (write_range a s e ws) words = refl
shows-after (fill s e w) words = refl

-- ---- what a good reply shows

pub contacts-shown : (header own n : ℕ) (words contacts : List ℕ) → n ≤ length contacts
    → reply_frame header own (good (reply_of (read_contacts (front n contacts)) (shows (operation_of (read_contacts (front n contacts))) words)))
    ≡ reply_frame header own (good ((letter_r ∷ letter_c ∷ []) ++ contacts_text (map (cell_at words) (map contact_cell (take n contacts)))))
unfolding reply_of operation_of shows
contacts-shown header own n words contacts h =
    ap (λ (cs : List ℕ). reply_frame header own (good ((letter_r ∷ letter_c ∷ []) ++ contacts_text (map (cell_at words) (map contact_cell cs))))) (front-take n contacts h)

pub range-shown : (header own : ℕ) (a : Area) (s e letter first count : ℕ) (words shown : List ℕ) → letter ≡ name_letter a → first ≡ word_in a s → count ≡ span s e → shown ≡ take count (drop first words)
    → reply_frame header own (good (reply_of (read_range a s e) (shows (operation_of (read_range a s e)) words))) ≡ reply_frame header own (good ((letter_r ∷ letter ∷ []) ++ words_text shown))
unfolding reply_of operation_of shows
range-shown header own a s e letter first count words shown l p q r =
    ap₂ (λ (x : ℕ) (ws : List ℕ). reply_frame header own (good ((letter_r ∷ x ∷ []) ++ words_text ws))) (sym l)
    (sym (r ∙ ap₂ (λ (k n : ℕ). take n (drop k words)) p q))
