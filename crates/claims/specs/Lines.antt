-- The worked lines that are proved, one list (RULES W1 to W6, W8 to W14, W17 to W21 and W23), and a few more that are tried by programs too. Assumes nothing.
use Rattle.std.specs.Prelude.{ℕ, List, [], ◌∷◌, ◌++◌, Bool, false, eqb, length, get_or, take, set, replicate}
use Rattle.rules.specs.Choice.{both}
use Rattle.rules.specs.Characters.{CR, percent}
use Rattle.rules.specs.Given.{Given, gives, refused}
use Rattle.checks_shared.specs.Right.{same}
use Rattle.checks_lrc.specs.Lrc.{lrc_of}
use Rattle.checks_crc.specs.Crc.{crc_of, right_crc}
use Rattle.checks_bit_count.specs.Differing.{bit_count}
use Rattle.table_addresses.specs.Catalogue.{register_address}
use Rattle.table_registers.specs.declared.Profile.{Profile}
use Rattle.table_registers.specs.declared.Profile.TheVariants.{Free, HlG2}
use Rattle.station.specs.Site.{Site, site_of}
use Rattle.station.specs.Outcome.{Returned, replied, carried_out, numbered, Outcome}
use Rattle.modbus_counters.specs.Counters.{cleared}
use Rattle.modbus_rtu.specs.Rtu.{rtu_station}
use Rattle.modbus_ascii.specs.Ascii.{ascii_station}
use Rattle.mewtocol_frame.specs.Frame.{ordinary, expanded, less_than}
use Rattle.mewtocol_station.specs.Station.{mewtocol_station}
use Rattle.mewtocol_asking.specs.Asking.{Asking, asking}
use Rattle.mewtocol_asking.specs.declared.Ask.TheVariants.{ReadContacts, ReadWords}
use Rattle.mewtocol_writer.specs.Writing as writing
use Rattle.mewtocol_writer.specs.Writing.{ask_frame}
use Rattle.mewtocol_reader.specs.Replies as replies
use Rattle.laser.specs.Frame as laser

-- ---- whether a line holds

abbrev pub is_given : Given → Given → Bool
is_given (gives n) (gives m) = eqb n m
is_given (gives n) (refused k) = false
is_given (refused j) (gives m) = false
is_given (refused j) (refused k) = eqb j k

abbrev pub is_shown : replies.Read → List ℕ → Bool
is_shown (replies.shows t) text = same t text
is_shown (replies.error e) text = false
is_shown (replies.unasked p) text = false
is_shown (replies.refused k) text = false

-- 13 at this place
abbrev pub is_placed : replies.Read → ℕ → Bool
is_placed (replies.shows t) p = false
is_placed (replies.error e) p = false
is_placed (replies.unasked j) p = eqb j p
is_placed (replies.refused k) p = false

-- a distance, or its refusal, as numbers
abbrev pub spelled : laser.Told → List ℕ
spelled (laser.measures v) = 0 ∷ v ∷ []
spelled (laser.unasked p) = 13 ∷ p ∷ []
spelled (laser.declined k) = k ∷ []

abbrev pub is_told : laser.Told → laser.Told → Bool
is_told t u = same (spelled t) (spelled u)

-- a call on a frame, in a room of 2,048 bytes, by a station with these attributes, and a profile or none
abbrev pub call_by : Profile → (Site → List ℕ → List ℕ → List ℕ → Outcome) → ℕ → List ℕ → List ℕ → List ℕ → Outcome
call_by profile station own attributes words frame = station (site_of attributes profile own) words frame (replicate 2048 0)

abbrev pub call : (Site → List ℕ → List ℕ → List ℕ → Outcome) → ℕ → List ℕ → List ℕ → List ℕ → Outcome
call = call_by Free

abbrev pub is_reply : ℕ → Returned → Bool
is_reply n (replied m) = eqb n m
is_reply n carried_out = false
is_reply n (numbered k) = false

abbrev pub is_number : ℕ → Returned → Bool
is_number k (replied m) = false
is_number k carried_out = eqb k 15
is_number k (numbered j) = eqb k j

-- it gives this reply, and a word is then this value
abbrev pub gets : Outcome → List ℕ → ℕ → ℕ → Bool
gets o reply place value =
    both (is_reply (length reply) o.result) (both (same (take (length reply) o.room) reply) (eqb (get_or o.words place 0) value))

-- it is carried out without a reply, and a word is then this value
abbrev pub carries : Outcome → ℕ → ℕ → Bool
carries o place value = both (is_number 15 o.result) (eqb (get_or o.words place 0) value)

-- ---- the table, and frames that several lines have

-- words 105 to 107 are 1234h, FFFFh, 0000h; 133 is 0; 4,096 words, all with attribute 3
abbrev pub table : List ℕ
table = set (set (replicate 4096 0) 105 0x1234) 106 0xFFFF

abbrev pub full : List ℕ
full = replicate 4096 3

-- `%01#RDD0010500107`, a check and CR
abbrev pub three_words : ℕ → ℕ → List ℕ
three_words a b = (37 ∷ 48 ∷ 49 ∷ 35 ∷ 82 ∷ 68 ∷ 68 ∷ 48 ∷ 48 ∷ 49 ∷ 48 ∷ 53 ∷ 48 ∷ 48 ∷ 49 ∷ 48 ∷ 55 ∷ []) ++ (a ∷ b ∷ CR ∷ [])

-- `%01$RD3412FFFF000012` CR
abbrev pub three_shown : List ℕ
three_shown = 37 ∷ 48 ∷ 49 ∷ 36 ∷ 82 ∷ 68 ∷ 51 ∷ 52 ∷ 49 ∷ 50 ∷ 70 ∷ 70 ∷ 70 ∷ 70 ∷ 48 ∷ 48 ∷ 48 ∷ 48 ∷ 49 ∷ 50 ∷ 13 ∷ []

-- `<01#RDD00105001074E` CR and `<01$RD3412FFFF00000B` CR
abbrev pub three_expanded : ℕ → ℕ → List ℕ
three_expanded a b = set (three_words a b) 0 less_than

abbrev pub three_shown_expanded : List ℕ
three_shown_expanded = set (set (set three_shown 0 less_than) 18 48) 19 66

-- `%01#WCSR1030121` CR
abbrev pub set_contact : List ℕ
set_contact = 37 ∷ 48 ∷ 49 ∷ 35 ∷ 87 ∷ 67 ∷ 83 ∷ 82 ∷ 49 ∷ 48 ∷ 51 ∷ 48 ∷ 49 ∷ 50 ∷ 49 ∷ 13 ∷ []

-- `01 16 00 04 00 F2 00 25 67 EE`
abbrev pub mask_word : List ℕ
mask_word = 0x01 ∷ 0x16 ∷ 0x00 ∷ 0x04 ∷ 0x00 ∷ 0xF2 ∷ 0x00 ∷ 0x25 ∷ 0x67 ∷ 0xEE ∷ []

-- `01 08 00 0A 00 00 C0 09`
abbrev pub clear_all : List ℕ
clear_all = 0x01 ∷ 0x08 ∷ 0x00 ∷ 0x0A ∷ 0x00 ∷ 0x00 ∷ 0xC0 ∷ 0x09 ∷ []

-- `01 10 00 64 00 02 04 7E F0 00 0E 6D AB`, 950,000 to words 100 and 101, and the same with 950,001
abbrev pub write_most : List ℕ
write_most = 0x01 ∷ 0x10 ∷ 0x00 ∷ 0x64 ∷ 0x00 ∷ 0x02 ∷ 0x04 ∷ 0x7E ∷ 0xF0 ∷ 0x00 ∷ 0x0E ∷ 0x6D ∷ 0xAB ∷ []

abbrev pub write_one_more : List ℕ
write_one_more = 0x01 ∷ 0x10 ∷ 0x00 ∷ 0x64 ∷ 0x00 ∷ 0x02 ∷ 0x04 ∷ 0x7E ∷ 0xF1 ∷ 0x00 ∷ 0x0E ∷ 0x3C ∷ 0x6B ∷ []

-- the words 105 to 107, asked of a station
abbrev pub ask_three : Asking
ask_three = asking (ReadWords 105 107) [] [] []

-- some contacts, asked of a station, and the number that its writer gives
abbrev pub ask_contacts : List ℕ → Asking
ask_contacts cs = asking ReadContacts cs [] []

abbrev pub written_for : List ℕ → Given
written_for cs = (writing.write ordinary 1 (ask_contacts cs) (replicate 118 0)).number

-- `%01$RC120` CR
abbrev pub one_shown : List ℕ
one_shown = 37 ∷ 48 ∷ 49 ∷ 36 ∷ 82 ∷ 67 ∷ 49 ∷ 50 ∷ 48 ∷ 13 ∷ []

-- `%01$RD3G12FFFF000061` CR
abbrev pub wrong_digit : List ℕ
wrong_digit = 37 ∷ 48 ∷ 49 ∷ 36 ∷ 82 ∷ 68 ∷ 51 ∷ 71 ∷ 49 ∷ 50 ∷ 70 ∷ 70 ∷ 70 ∷ 70 ∷ 48 ∷ 48 ∷ 48 ∷ 48 ∷ 54 ∷ 49 ∷ 13 ∷ []

-- ---- the lines

-- the words that W3 leaves, from which W4 starts
abbrev pub left_by_w3 : List ℕ
left_by_w3 = (call mewtocol_station 1 full table set_contact).words

-- what the HL-G2 does with 950,000, from which it gets 950,001
abbrev pub most_written : Outcome
most_written = call_by HlG2 (rtu_station cleared) 1 full table write_most

abbrev pub lines : List Bool
lines =
    -- W2; and the host that asks for these words writes this frame, and reads `3412FFFF0000` in the reply
    gets (call mewtocol_station 1 full table (three_words 53 55)) three_shown 105 0x1234
    ∷ same (ask_frame percent 1 ask_three) (three_words 53 55)
    ∷ is_shown (replies.read ordinary 1 ask_three three_shown) (51 ∷ 52 ∷ 49 ∷ 50 ∷ 70 ∷ 70 ∷ 70 ∷ 70 ∷ 48 ∷ 48 ∷ 48 ∷ 48 ∷ [])
    -- W3: `%01$WC14` CR
    ∷ gets (call mewtocol_station 1 full table set_contact) (37 ∷ 48 ∷ 49 ∷ 36 ∷ 87 ∷ 67 ∷ 49 ∷ 52 ∷ 13 ∷ []) 133 1
    -- W4: `%01#RCSR103015` CR gets `%01$RC120` CR
    ∷ gets (call mewtocol_station 1 full left_by_w3 (37 ∷ 48 ∷ 49 ∷ 35 ∷ 82 ∷ 67 ∷ 83 ∷ 82 ∷ 49 ∷ 48 ∷ 51 ∷ 48 ∷ 49 ∷ 53 ∷ 13 ∷ []))
    one_shown 133 1
    -- W5: `%01!4001` CR, and 12 at station 2
    ∷ gets (call mewtocol_station 1 full table (three_words 53 56)) (37 ∷ 48 ∷ 49 ∷ 33 ∷ 52 ∷ 48 ∷ 48 ∷ 49 ∷ 13 ∷ []) 105 0x1234
    ∷ is_number 12 (call mewtocol_station 2 full table (three_words 53 56)).result
    -- W6: `%01!6605` CR
    ∷ gets (call mewtocol_station 1 (set full 106 0) table (three_words 53 55)) (37 ∷ 48 ∷ 49 ∷ 33 ∷ 54 ∷ 54 ∷ 48 ∷ 53 ∷ 13 ∷ []) 105 0x1234
    -- W8: `:01030085000176` CR LF gets `:0103020001F9` CR LF
    ∷ gets (call (ascii_station cleared) 1 full (set table 133 1) (58 ∷ 48 ∷ 49 ∷ 48 ∷ 51 ∷ 48 ∷ 48 ∷ 56 ∷ 53 ∷ 48 ∷ 48 ∷ 48 ∷ 49 ∷ 55 ∷ 54 ∷ 13 ∷ 10 ∷ []))
    (58 ∷ 48 ∷ 49 ∷ 48 ∷ 51 ∷ 48 ∷ 50 ∷ 48 ∷ 48 ∷ 48 ∷ 49 ∷ 70 ∷ 57 ∷ 13 ∷ 10 ∷ []) 133 1
    -- W9: `:0108000C0000EB` CR LF gets itself: the count is 0
    ∷ gets (call (ascii_station cleared) 1 full table (58 ∷ 48 ∷ 49 ∷ 48 ∷ 56 ∷ 48 ∷ 48 ∷ 48 ∷ 67 ∷ 48 ∷ 48 ∷ 48 ∷ 48 ∷ 69 ∷ 66 ∷ 13 ∷ 10 ∷ []))
    (58 ∷ 48 ∷ 49 ∷ 48 ∷ 56 ∷ 48 ∷ 48 ∷ 48 ∷ 67 ∷ 48 ∷ 48 ∷ 48 ∷ 48 ∷ 69 ∷ 66 ∷ 13 ∷ 10 ∷ []) 133 0
    -- W10, of word 4; the reply is the request
    ∷ gets (call (rtu_station cleared) 1 full (set table 4 0x12) mask_word) mask_word 4 0x17
    -- W11
    ∷ right_crc (0x01 ∷ 0x08 ∷ 0x00 ∷ 0x0C ∷ 0x00 ∷ 0x00 ∷ 0x20 ∷ 0x08 ∷ [])
    -- W12
    ∷ is_given (register_address 400134) (gives 133) ∷ is_given (register_address 400000) (refused 5) ∷ is_given (register_address 404097) (gives 4096)
    ∷ is_given (register_address 465536) (gives 65535) ∷ is_given (register_address 465537) (refused 5)
    -- W13: `/060D12345`, NUL, `6C.`, and without the NUL
    ∷ is_told (laser.distance_of (47 ∷ 48 ∷ 54 ∷ 48 ∷ 68 ∷ 49 ∷ 50 ∷ 51 ∷ 52 ∷ 53 ∷ 0 ∷ 54 ∷ 67 ∷ 46 ∷ [])) (laser.measures 12345)
    ∷ is_told (laser.distance_of (47 ∷ 48 ∷ 54 ∷ 48 ∷ 68 ∷ 49 ∷ 50 ∷ 51 ∷ 52 ∷ 53 ∷ 54 ∷ 67 ∷ 46 ∷ [])) (laser.declined 10)
    -- W14: `/020D0059.`
    ∷ laser.good_check (47 ∷ 48 ∷ 50 ∷ 48 ∷ 68 ∷ 48 ∷ 48 ∷ 53 ∷ 57 ∷ 46 ∷ [])
    -- W17: 00 06 00 05 12 34 95 6D, and `%FF#WDD0000500005341255` CR
    ∷ carries (call (rtu_station cleared) 1 full table (0x00 ∷ 0x06 ∷ 0x00 ∷ 0x05 ∷ 0x12 ∷ 0x34 ∷ 0x95 ∷ 0x6D ∷ [])) 5 0x1234
    ∷ carries (call mewtocol_station 1 full table
    (37 ∷ 70 ∷ 70 ∷ 35 ∷ 87 ∷ 68 ∷ 68 ∷ 48 ∷ 48 ∷ 48 ∷ 48 ∷ 53 ∷ 48 ∷ 48 ∷ 48 ∷ 48 ∷ 53 ∷ 51 ∷ 52 ∷ 49 ∷ 50 ∷ 53 ∷ 53 ∷ 13 ∷ [])) 5 0x1234
    -- W18: 01 08 00 0B 00 00 91 C9 gets 01 08 00 0B 00 01 50 09, 01 08 00 0A 00 00 C0 09 itself
    ∷ gets (call (rtu_station cleared) 1 full table (0x01 ∷ 0x08 ∷ 0x00 ∷ 0x0B ∷ 0x00 ∷ 0x00 ∷ 0x91 ∷ 0xC9 ∷ []))
    (0x01 ∷ 0x08 ∷ 0x00 ∷ 0x0B ∷ 0x00 ∷ 0x01 ∷ 0x50 ∷ 0x09 ∷ []) 133 0
    ∷ gets (call (rtu_station cleared) 1 full table clear_all) clear_all 133 0
    -- W19: `%01$RD3G12FFFF000061` CR is 13 at 7, and `%01$RC120` CR 13 at its length; `/060D1234X`, NUL, `01.` at 9, and `/060D12345`, 01h, `6D.` at 10
    ∷ is_placed (replies.read ordinary 1 ask_three wrong_digit) 7
    ∷ is_placed (replies.read ordinary 1 ask_three one_shown) 10
    ∷ is_told (laser.distance_of (47 ∷ 48 ∷ 54 ∷ 48 ∷ 68 ∷ 49 ∷ 50 ∷ 51 ∷ 52 ∷ 88 ∷ 0 ∷ 48 ∷ 49 ∷ 46 ∷ [])) (laser.unasked 9)
    ∷ is_told (laser.distance_of (47 ∷ 48 ∷ 54 ∷ 48 ∷ 68 ∷ 49 ∷ 50 ∷ 51 ∷ 52 ∷ 53 ∷ 1 ∷ 54 ∷ 68 ∷ 46 ∷ [])) (laser.unasked 10)
    -- W20: R1030 is asked by `%01#RCSR103015` CR, with R1010 by `%01#RCP2R1030R101076` CR; none and nine are 14; `%01#RCP1R103027` CR gets W4's reply
    ∷ same (ask_frame percent 1 (ask_contacts (1648 ∷ []))) (37 ∷ 48 ∷ 49 ∷ 35 ∷ 82 ∷ 67 ∷ 83 ∷ 82 ∷ 49 ∷ 48 ∷ 51 ∷ 48 ∷ 49 ∷ 53 ∷ 13 ∷ [])
    ∷ same (ask_frame percent 1 (ask_contacts (1648 ∷ 1616 ∷ [])))
    (37 ∷ 48 ∷ 49 ∷ 35 ∷ 82 ∷ 67 ∷ 80 ∷ 50 ∷ 82 ∷ 49 ∷ 48 ∷ 51 ∷ 48 ∷ 82 ∷ 49 ∷ 48 ∷ 49 ∷ 48 ∷ 55 ∷ 54 ∷ 13 ∷ [])
    ∷ is_given (written_for []) (refused 14) ∷ is_given (written_for (replicate 9 1648)) (refused 14)
    ∷ gets (call mewtocol_station 1 full left_by_w3 (37 ∷ 48 ∷ 49 ∷ 35 ∷ 82 ∷ 67 ∷ 80 ∷ 49 ∷ 82 ∷ 49 ∷ 48 ∷ 51 ∷ 48 ∷ 50 ∷ 55 ∷ 13 ∷ [])) one_shown 133 1
    -- W21: `<01#RDD00105001074E` CR gets `<01$RD3412FFFF00000B` CR, with check `57` `<01!4018` CR; the host that asked with `<` reads the words, the one that
    -- asked with `%` 13 at its length
    ∷ gets (call mewtocol_station 1 full table (three_expanded 52 69)) three_shown_expanded 105 0x1234
    ∷ gets (call mewtocol_station 1 full table (three_expanded 53 55)) (60 ∷ 48 ∷ 49 ∷ 33 ∷ 52 ∷ 48 ∷ 49 ∷ 56 ∷ 13 ∷ []) 105 0x1234
    ∷ is_shown (replies.read expanded 1 ask_three three_shown_expanded) (51 ∷ 52 ∷ 49 ∷ 50 ∷ 70 ∷ 70 ∷ 70 ∷ 70 ∷ 48 ∷ 48 ∷ 48 ∷ 48 ∷ [])
    ∷ is_placed (replies.read ordinary 1 ask_three three_shown_expanded) 21
    -- W23: 950,000 gets 01 10 00 64 00 02 00 17 and stands in words 100 and 101; 950,001 then gets 01 90 03 0C 01, and `%01#WDD0010000101F17E0E0021` CR
    -- `%01!6102` CR, and word 100 is as before
    ∷ gets most_written (0x01 ∷ 0x10 ∷ 0x00 ∷ 0x64 ∷ 0x00 ∷ 0x02 ∷ 0x00 ∷ 0x17 ∷ []) 100 0x7EF0
    ∷ eqb (get_or most_written.words 101 0) 0x000E
    ∷ gets (call_by HlG2 (rtu_station cleared) 1 full most_written.words write_one_more) (0x01 ∷ 0x90 ∷ 0x03 ∷ 0x0C ∷ 0x01 ∷ []) 100 0x7EF0
    ∷ gets (call_by HlG2 mewtocol_station 1 full most_written.words
    (37 ∷ 48 ∷ 49 ∷ 35 ∷ 87 ∷ 68 ∷ 68 ∷ 48 ∷ 48 ∷ 49 ∷ 48 ∷ 48 ∷ 48 ∷ 48 ∷ 49 ∷ 48 ∷ 49 ∷ 70 ∷ 49 ∷ 55 ∷ 69 ∷ 48 ∷ 69 ∷ 48 ∷ 48 ∷ 50 ∷ 49 ∷ 13 ∷ []))
    (37 ∷ 48 ∷ 49 ∷ 33 ∷ 54 ∷ 49 ∷ 48 ∷ 50 ∷ 13 ∷ []) 100 0x7EF0
    -- the CRC of `123456789` is 4B37h; the LRC of 01 03 00 00 00 0A is F2h
    ∷ eqb (crc_of (49 ∷ 50 ∷ 51 ∷ 52 ∷ 53 ∷ 54 ∷ 55 ∷ 56 ∷ 57 ∷ [])) 0x4B37
    ∷ eqb (lrc_of (0x01 ∷ 0x03 ∷ 0x00 ∷ 0x00 ∷ 0x00 ∷ 0x0A ∷ [])) 0xF2
    -- the bits in which frames differ (RULES D2)
    ∷ is_given (bit_count [] []) (gives 0) ∷ is_given (bit_count (0x0F ∷ 1 ∷ []) (0xF0 ∷ 3 ∷ [])) (gives 9)
    ∷ is_given (bit_count (replicate 257 0) (replicate 257 0)) (refused 6)
    ∷ []
