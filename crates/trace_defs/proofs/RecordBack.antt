-- A printed record reads back as what it was.
use Rattle.std.proofs.Common.{◌≡◌, ℕ, zero, suc, ◌+◌, ◌<◌, ◌≤◌, true, false, cond, not, ◌&&◌, is_some, eqb, leb, List, [], ◌∷◌, ◌++◌, codes, Option, Some, None, Result, Ok, refl, ap, ◌∙◌, arith}
use Rattle.std.specs.List.{list_all}
use Rattle.std.specs.Fmt.{decimal, digits}
use Rattle.std.proofs.lemmas.Bool.Decides.{nat_tests}
use Rattle.std.proofs.lemmas.Fmt.{decimal_digit}
use Rattle.wire_defs.specs.Ethernet.{is_control}
use Rattle.wire_defs.specs.Number.{number_in}
use Rattle.wire_defs.specs.Text.{ended_lines}
use Rattle.switch_event.specs.Config.{Config, has_port}
use Rattle.switch_event.specs.Event.{Happening, Frame, Radius, Dynamic, Second, Link, SetControl}
use Rattle.trace_defs.specs.declared.keyword.RecordWord.{RecordWord}
use Rattle.trace_defs.specs.declared.keyword.RecordWord.TheVariants as entry
use Rattle.trace_defs.specs.Word.{address_of, hex_in, link_of, control_of}
use Rattle.trace_defs.specs.Text.{spaced, text_line, dotted, octets_text, control_text, link_text, event_words, record_text}
use Rattle.trace_defs.specs.declared.reason.TheConstants.{NUMBER, HEX, NAME, PORT, LANED}
use Rattle.trace_defs.specs.Line.{Record, Line, head_of, behind_mark, event_line, frame_line, radius_line, port_event, record_line, is_comment, line_of}
use Rattle.trace_defs.proofs.Headed.{with-some, unless-next, spoken_line}
use Rattle.trace_defs.specs.Line.Record.{Control, Data}
use Rattle.trace_defs.specs.Line.Line.{Entry}
use Rattle.trace_defs.proofs.PlainWords.{IsWord, word_by_test, AreWords, room, line_of-words}
use Rattle.trace_defs.proofs.TextLines.{is_no_feed, words-unfed, ended_lines-line}
use Rattle.trace_defs.proofs.NumberText.{number_back, number_word, address_back, address_word}
use Rattle.trace_defs.proofs.OctetText.{octets_back, octets_word, control_back, control_word, link_back, link_word}
use Rattle.trace_defs.specs.Sized.{IsSized}
use Rattle.trace_defs.proofs.LineFacts.{IsAfter, Gives-at, line_of-after}
use Rattle.trace_defs.specs.Records.{IsPort, IsEvent, IsRecord}

-- ---- the words of a control event

abbrev keyword : Happening → RecordWord
keyword (Frame port octets) = entry.Frame
keyword (Radius socket octets) = entry.Radius
keyword (Dynamic from octets) = entry.Dyn
keyword Second = entry.Tick
keyword (Link port up) = entry.Link
keyword (SetControl port control) = entry.Control

abbrev first : Happening → List ℕ
first (Frame port octets) = codes "frame"
first (Radius socket octets) = codes "radius"
first (Dynamic from octets) = codes "dyn"
first Second = codes "tick"
first (Link port up) = codes "link"
first (SetControl port control) = codes "control"

abbrev args : Happening → List (List ℕ)
args (Frame port octets) = decimal port ∷ octets_text octets ∷ []
args (Radius zero octets) = octets_text octets ∷ []
args (Radius (suc n) octets) = decimal (suc n) ∷ octets_text octets ∷ []
args (Dynamic from octets) = dotted from.ip ∷ decimal from.port ∷ octets_text octets ∷ []
args Second = []
args (Link port up) = decimal port ∷ link_text up ∷ []
args (SetControl port control) = decimal port ∷ control_text control ∷ []

abbrev mosts : Happening → List ℕ
mosts (Frame port octets) = 20 ∷ 4001 ∷ []
mosts (Radius zero octets) = 10001 ∷ []
mosts (Radius (suc n) octets) = 20 ∷ 10001 ∷ []
mosts (Dynamic from octets) = 83 ∷ 20 ∷ 10001 ∷ []
mosts Second = []
mosts (Link port up) = 20 ∷ 4 ∷ []
mosts (SetControl port control) = 20 ∷ 12 ∷ []

above : (n : ℕ) → eqb (suc n) 0 ≡ false
above n = grind (arith, nat_tests)

words_are : (event : Happening) → event_words event ≡ first event ∷ args event
words_are (Frame port octets) = refl
words_are (Radius zero octets) = refl
words_are (Radius (suc n) octets) = ap (λ b. codes "radius" ∷ cond b [] (decimal (suc n) ∷ []) ++ octets_text octets ∷ []) (above n)
words_are (Dynamic from octets) = refl
words_are Second = refl
words_are (Link port up) = refl
words_are (SetControl port control) = refl

first_word : (event : Happening) → IsWord 7 (first event)
first_word (Frame port octets) = word_by_test 7 (codes "frame") refl
first_word (Radius socket octets) = word_by_test 7 (codes "radius") refl
first_word (Dynamic from octets) = word_by_test 7 (codes "dyn") refl
first_word Second = word_by_test 7 (codes "tick") refl
first_word (Link port up) = word_by_test 7 (codes "link") refl
first_word (SetControl port control) = word_by_test 7 (codes "control") refl

small : (most n : ℕ) → n ≤ most → most ≤ 4294967295 → n < 18446744073709551616
small most n h k = omega arith

args_words : (config : Config) (event : Happening) → IsEvent config event → AreWords (mosts event) (args event)
args_words config (Frame port octets) h = (number_word port (small 60 port h.0.high (omega arith)), (octets_word 2000 octets h.1, tt))
args_words config (Radius zero octets) h = (octets_word 5000 octets h.1, tt)
args_words config (Radius (suc n) octets) h = (number_word (suc n) (small 4 (suc n) h.0 (omega arith)), (octets_word 5000 octets h.1, tt))
args_words config (Dynamic from octets) h = (address_word from.ip h.0, (number_word from.port (small 65535 from.port h.1 (omega arith)), (octets_word 5000 octets h.2, tt)))
args_words config Second h = tt
args_words config (Link port up) h = (number_word port (small 60 port h.high (omega arith)), (link_word up, tt))
args_words config (SetControl port control) h = (number_word port (small 60 port h.high (omega arith)), (control_word control, tt))

fits : (event : Happening) → leb (room (7 ∷ mosts event)) 10240 ≡ true
fits (Frame port octets) = refl
fits (Radius zero octets) = refl
fits (Radius (suc n) octets) = refl
fits (Dynamic from octets) = refl
fits Second = refl
fits (Link port up) = refl
fits (SetControl port control) = refl

fits_marked : (event : Happening) → leb (room (2 ∷ 7 ∷ mosts event)) 10240 ≡ true
fits_marked (Frame port octets) = refl
fits_marked (Radius zero octets) = refl
fits_marked (Radius (suc n) octets) = refl
fits_marked (Dynamic from octets) = refl
fits_marked Second = refl
fits_marked (Link port up) = refl
fits_marked (SetControl port control) = refl

no_comment : (event : Happening) → is_comment (first event) ≡ false
no_comment (Frame port octets) = refl
no_comment (Radius socket octets) = refl
no_comment (Dynamic from octets) = refl
no_comment Second = refl
no_comment (Link port up) = refl
no_comment (SetControl port control) = refl

-- ---- what they are read as

first_is : (config : Config) (given : ℕ) (event : Happening) → spoken_line config given true (head_of (first event) (args event)) ≡ record_line config None (keyword event) (args event)
first_is config given (Frame port octets) = refl
first_is config given (Radius socket octets) = refl
first_is config given (Dynamic from octets) = refl
first_is config given Second = refl
first_is config given (Link port up) = refl
first_is config given (SetControl port control) = refl

laned_is : (config : Config) (given lane : ℕ) (event : Happening)
    → spoken_line config given true (behind_mark (Some lane) (first event ∷ args event)) ≡ record_line config (Some lane) (keyword event) (args event)
laned_is config given lane (Frame port octets) = refl
laned_is config given lane (Radius socket octets) = refl
laned_is config given lane (Dynamic from octets) = refl
laned_is config given lane Second = refl
laned_is config given lane (Link port up) = refl
laned_is config given lane (SetControl port control) = refl

-- a frame on a port of the settings, which has no lane where it is data
abbrev framed : Option ℕ → ℕ → List ℕ → Result Line ℕ
framed lane port octets = cond (is_control octets) (event_line lane (Frame port octets)) (Ok (Entry (Data port octets)))

frame_back : (config : Config) (lane : Option ℕ) (port : ℕ) (octets : List ℕ) → IsPort config port → IsSized 0 2000 octets → (not (is_control octets) && is_some lane) ≡ false
    → frame_line config lane (decimal port ∷ octets_text octets ∷ []) ≡ framed lane port octets
frame_back config lane port octets p h free =
    with-some (number_in 1 60 (decimal port)) port NUMBER _ (number_back 1 60 port p.low p.high (small 60 port p.high (omega arith)))
    ∙ with-some (hex_in 0 2000 (octets_text octets)) octets HEX _ (octets_back 2000 octets h)
    ∙ unless-next (not (has_port port config)) PORT ((not (is_control octets) && is_some lane, LANED) ∷ []) (framed lane port octets) (ap not p.known)
    ∙ unless-next (not (is_control octets) && is_some lane) LANED [] (framed lane port octets) free

port_back : (config : Config) (lane : Option ℕ) (port : ℕ) (event : Happening) → IsPort config port → port_event config lane port event ≡ event_line lane event
port_back config lane port event p = unless-next (not (has_port port config)) PORT [] (event_line lane event) (ap not p.known)

zero_word : number_in 0 4 (codes "0") ≡ Some 0
unfolding digits
zero_word = refl

socket_back : (lane : Option ℕ) (socket : ℕ) (word octets : List ℕ) → number_in 0 4 word ≡ Some socket → IsSized 0 5000 octets
    → radius_line lane (word ∷ octets_text octets ∷ []) ≡ event_line lane (Radius socket octets)
socket_back lane socket word octets is h = with-some (number_in 0 4 word) socket NUMBER _ is ∙ with-some (hex_in 0 5000 (octets_text octets)) octets HEX _ (octets_back 5000 octets h)

event_back : (config : Config) (lane : Option ℕ) (event : Happening) → IsEvent config event → record_line config lane (keyword event) (args event) ≡ event_line lane event
event_back config lane (Frame port octets) h =
    frame_back config lane port octets h.0 h.1 (ap (λ b. not b && is_some lane) h.2)
    ∙ ap (λ b. cond b (event_line lane (Frame port octets)) (Ok (Entry (Data port octets)))) h.2
event_back config lane (Radius zero octets) h = socket_back lane 0 (codes "0") octets zero_word h.1
event_back config lane (Radius (suc n) octets) h =
    socket_back lane (suc n) (decimal (suc n)) octets (number_back 0 4 (suc n) (omega arith) h.0 (small 4 (suc n) h.0 (omega arith))) h.1
event_back config lane (Dynamic from octets) h =
    with-some (address_of (dotted from.ip)) from.ip NUMBER _ (address_back from.ip h.0)
    ∙ with-some (number_in 0 65535 (decimal from.port)) from.port NUMBER _ (number_back 0 65535 from.port (omega arith) h.1 (small 65535 from.port h.1 (omega arith)))
    ∙ with-some (hex_in 0 5000 (octets_text octets)) octets HEX _ (octets_back 5000 octets h.2)
event_back config lane Second h = refl
event_back config lane (Link port up) h =
    with-some (number_in 1 60 (decimal port)) port NUMBER _ (number_back 1 60 port h.low h.high (small 60 port h.high (omega arith)))
    ∙ with-some (link_of (link_text up)) up NAME _ (link_back up)
    ∙ port_back config lane port (Link port up) h
event_back config lane (SetControl port control) h =
    with-some (number_in 1 60 (decimal port)) port NUMBER _ (number_back 1 60 port h.low h.high (small 60 port h.high (omega arith)))
    ∙ with-some (control_of (control_text control)) control NAME _ (control_back control)
    ∙ port_back config lane port (SetControl port control) h

-- ---- records

-- the line that is printed for a record, and what it is read as
pub record IsPrinted (config : Config) (r : Record) (text : List ℕ) : Type 0 where
  pub text_is : record_text r ≡ text ++ 10 ∷ []
  pub unfed : list_all is_no_feed text ≡ true
  pub reads : (given : ℕ) → line_of config given true text ≡ Ok (Entry r)

plain_event : (config : Config) (event : Happening) → IsEvent config event → IsPrinted config (Control 1 event) (spaced (first event ∷ args event))
plain_event config event h =
    let hs = args_words config event h in
    record {
      text_is = ap text_line (words_are event);
      unfed = (words-unfed (7 ∷ mosts event) (first event ∷ args event) (first_word event, hs)).plain;
      reads = λ given. line_of-words config given true 7 (mosts event) (first event) (args event) (first_word event, hs) (no_comment event) (fits event)
          ∙ first_is config given event ∙ event_back config None event h;
    }

-- behind the mark of another lane
marked_event : (config : Config) (lane : ℕ) (event : Happening) → lane < 10 → eqb lane 1 ≡ false → IsWord 2 (64 ∷ (48 + lane) ∷ []) → IsEvent config event
    → ((rest : List (List ℕ)) → head_of (64 ∷ (48 + lane) ∷ []) rest ≡ behind_mark (Some lane) rest)
    → IsPrinted config (Control lane event) (spaced ((64 ∷ (48 + lane) ∷ []) ∷ first event ∷ args event))
marked_event config lane event digit other word h reads_mark =
    let mark = 64 ∷ (48 + lane) ∷ [] in
    let hs = args_words config event h in
    record {
      text_is = ap (λ b. cond b [] (64 ∷ decimal lane ++ 32 ∷ []) ++ text_line (event_words event)) other
          ∙ ap (λ number. (64 ∷ number ++ 32 ∷ []) ++ text_line (event_words event)) (decimal_digit lane digit)
          ∙ ap (λ ws. 64 ∷ (48 + lane) ∷ 32 ∷ text_line ws) (words_are event);
      unfed = (words-unfed (2 ∷ 7 ∷ mosts event) (mark ∷ first event ∷ args event) (word, (first_word event, hs))).plain;
      reads = λ given. line_of-words config given true 2 (7 ∷ mosts event) mark (first event ∷ args event) (word, (first_word event, hs)) refl (fits_marked event)
          ∙ ap (spoken_line config given true) (reads_mark (first event ∷ args event)) ∙ laned_is config given lane event ∙ event_back config (Some lane) event h;
    }

data_record : (config : Config) (port : ℕ) (octets : List ℕ) → IsRecord config (Data port octets) → IsPrinted config (Data port octets) (spaced (codes "frame" ∷ decimal port ∷ octets_text octets ∷ []))
data_record config port octets h =
    let low = small 60 port h.0.high (omega arith) in
    let hs : AreWords (20 ∷ 4001 ∷ []) (decimal port ∷ octets_text octets ∷ []) = (number_word port low, (octets_word 2000 octets h.1, tt)) in
    let word = word_by_test 7 (codes "frame") refl in
    record {
      text_is = refl;
      unfed = (words-unfed (7 ∷ 20 ∷ 4001 ∷ []) (codes "frame" ∷ decimal port ∷ octets_text octets ∷ []) (word, hs)).plain;
      reads = λ given. line_of-words config given true 7 (20 ∷ 4001 ∷ []) (codes "frame") (decimal port ∷ octets_text octets ∷ []) (word, hs) refl refl
          ∙ frame_back config None port octets h.0 h.1 (ap (λ b. not b && false) h.2)
          ∙ ap (λ b. cond b (event_line None (Frame port octets)) (Ok (Entry (Data port octets)))) h.2;
    }

-- a record that a line can write is printed as a line that reads as it
pub record_back : (config : Config) (r : Record) → IsRecord config r → (text : List ℕ) × IsPrinted config r text
record_back config (Control zero event) h = absurd (omega (arith, h.0))
record_back config (Control (suc zero) event) h = (_, plain_event config event h.2)
record_back config (Control (suc (suc zero)) event) h = (_, marked_event config 2 event (omega arith) refl (word_by_test 2 (codes "@2") refl) h.2 (λ rest. refl))
record_back config (Control (suc (suc (suc zero))) event) h = (_, marked_event config 3 event (omega arith) refl (word_by_test 2 (codes "@3") refl) h.2 (λ rest. refl))
record_back config (Control (suc (suc (suc (suc more)))) event) h = absurd (omega (arith, h.1))
record_back config (Data port octets) h = (_, data_record config port octets h)

-- the record of a line that was read is printed as a line that reads as that record, whatever the settings that were given
pub record_reads_back : (config : Config) (given : ℕ) (line : List ℕ) (r : Record) → line_of config given true line ≡ Ok (Entry r)
    → (text : List ℕ) × (record_text r ≡ text ++ 10 ∷ []) × ((given' : ℕ) → line_of config given' true text ≡ Ok (Entry r))
record_reads_back config given line r e =
    let back = record_back config r (Gives-at (IsAfter config) (line_of config given true line) (Entry r) (line_of-after config given line) e) in
    (back.0, back.1.text_is, back.1.reads)

-- and it is one line
pub record_one_line : (config : Config) (given : ℕ) (line : List ℕ) (r : Record) → line_of config given true line ≡ Ok (Entry r)
    → (text : List ℕ) × (ended_lines (record_text r) ≡ text ∷ []) × ((given' : ℕ) → line_of config given' true text ≡ Ok (Entry r))
record_one_line config given line r e =
    let back = record_back config r (Gives-at (IsAfter config) (line_of config given true line) (Entry r) (line_of-after config given line) e) in
    (back.0, ap ended_lines back.1.text_is ∙ ended_lines-line back.0 [] back.1.unfed, back.1.reads)
