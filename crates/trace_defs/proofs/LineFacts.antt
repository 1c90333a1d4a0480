-- What is known of a line that was read.
use Rattle.std.proofs.Common.{◌≡◌, ℕ, ◌<◌, ◌≤◌, Bool, true, false, cond, not, ◌&&◌, is_some, eqb, ltb, List, [], ◌∷◌, length, filter, codes, Option, Some, None, Result, Ok, Err, refl, subst, arith}
use Rattle.std.specs.List.{slice_split, list_all, onto_first}
use Rattle.std.specs.Str.{bytes_eq}
use Rattle.std.specs.Str.Lines.{strip_carriage_return}
use Rattle.std.proofs.lemmas.Bool.{and_parts, and_from, cond_both, not-false}
use Rattle.std.proofs.lemmas.Bool.Decides.{nat_tests}
use Rattle.wire_defs.specs.Text.{words}
use Rattle.wire_defs.specs.Number.{number_in}
use Rattle.wire_defs.specs.Ethernet.{is_control}
use Rattle.switch_event.specs.Config.{Config, has_port}
use Rattle.switch_event.specs.Event.{Happening, Frame, Radius, Dynamic, Second, Link, SetControl}
use Rattle.trace_defs.specs.declared.keyword.Keyword.{Keyword}
use Rattle.trace_defs.specs.declared.keyword.Keyword.TheVariants.{Setting as IsSetting, Record as IsEntry, Sync as IsSync}
use Rattle.trace_defs.specs.declared.keyword.RecordWord.{RecordWord}
use Rattle.trace_defs.specs.declared.keyword.RecordWord.TheVariants as entry
use Rattle.trace_defs.specs.Word.{keyword_of, lane_of, two_of, three_of, socket_of, address_of, hex_in, control_of, link_of}
use Rattle.trace_defs.specs.declared.reason.TheConstants.{LONG, OCTET, LANE, WORD, PLACE, COUNT, NUMBER, HEX, NAME, PORT, LANED}
use Rattle.trace_defs.specs.Refusal.{◌>>=◌, or_refused, unless}
use Rattle.trace_defs.specs.Line.{Line, Head, head_of, behind_mark, has_wrong_lane, is_unknown, is_misplaced, keyword_line, headed_line, alone, in_lane, event_line, frame_line, radius_line, dyn_line, port_event, link_line, control_line, record_line, is_mark, words_line, is_comment, is_printable, stripped_line, line_of}
use Rattle.trace_defs.specs.Line.Record.{Control, Data}
use Rattle.trace_defs.specs.Line.Line.{Blank, Begin, Sync, Setting, Entry}
use Rattle.trace_defs.specs.Sized.{is_glyph, IsSized, IsPlain}
use Rattle.trace_defs.proofs.NumberText.{number_in-some, address_of-some}
use Rattle.trace_defs.proofs.OctetText.{hex_in-some}
use Rattle.trace_defs.specs.Records.{IsEvent, IsPort, IsRecord}

-- what is known of a line where it is not refused
abbrev pub Gives : (Line → Type 0) → Result Line ℕ → Type 0
Gives P (Ok line) = P line
Gives P (Err why) = Unit {0}

pub Gives-at : (P : Line → Type 0) (r : Result Line ℕ) (line : Line) → Gives P r → r ≡ Ok line → P line
Gives-at P r line h e = subst (Gives P) e h

pub Gives-some : (P : Line → Type 0) {A : Type 0} (o : Option A) (why : ℕ) (f : A → Result Line ℕ) → ((x : A) → o ≡ Some x → Gives P (f x)) → Gives P (or_refused o why >>= f)
Gives-some P None why f h = tt
Gives-some P (Some x) why f h = h x refl

pub Gives-unless : (P : Line → Type 0) (b : Bool) (why : ℕ) (more : List (Bool × ℕ)) (read : Result Line ℕ) → (b ≡ false → Gives P (unless more read)) → Gives P (unless ((b, why) ∷ more) read)
Gives-unless P true why more read h = tt
Gives-unless P false why more read h = h refl

pub Gives-alone : (P : Line → Type 0) (r : Result Line ℕ) (rest : List (List ℕ)) → Gives P r → Gives P (alone r rest)
Gives-alone P r [] h = h
Gives-alone P r (word ∷ rest) h = tt

pub Gives-if : (P : Line → Type 0) (b : Bool) (x y : Result Line ℕ) → (b ≡ true → Gives P x) → (b ≡ false → Gives P y) → Gives P (cond b x y)
Gives-if P b x y h k = cond_both b x y (Gives P) h k

-- ---- the words of a printable line

abbrev pub ArePlain : List (List ℕ) → Type 0
ArePlain [] = Unit {0}
ArePlain (word ∷ words) = IsPlain word × ArePlain words

abbrev AreParts : List (List ℕ) → Type 0
AreParts [] = Unit {0}
AreParts (part ∷ parts) = (list_all is_glyph part ≡ true) × AreParts parts

parts-onto : (x : ℕ) (parts : List (List ℕ)) → is_glyph x ≡ true → AreParts parts → AreParts (onto_first x parts)
parts-onto x [] h hs = (and_from (is_glyph x) true h refl, tt)
parts-onto x (part ∷ parts) h hs = (and_from (is_glyph x) (list_all is_glyph part) h hs.0, hs.1)

parts-split : (line : List ℕ) → list_all is_printable line ≡ true → AreParts (slice_split (λ x. eqb x 32) line)
parts-split [] h = (refl, tt)
parts-split (x ∷ line) h =
    let both = and_parts (is_printable x) (list_all is_printable line) h in
    let rest = parts-split line both.1 in
    cond_both (eqb x 32) ([] ∷ slice_split (λ x. eqb x 32) line) (onto_first x (slice_split (λ x. eqb x 32) line)) AreParts
    (λ e. (refl, rest)) (λ e. parts-onto x (slice_split (λ x. eqb x 32) line) (glyph x both.0 e) rest)
  where
    glyph : (x : ℕ) → is_printable x ≡ true → eqb x 32 ≡ false → is_glyph x ≡ true
    glyph x h e = grind (arith, nat_tests)

plain_parts : (parts : List (List ℕ)) → AreParts parts → ArePlain (filter (λ w. ltb 0 (length w)) parts)
plain_parts [] hs = tt
plain_parts (part ∷ parts) hs =
    cond_both (ltb 0 (length part)) (part ∷ filter (λ w. ltb 0 (length w)) parts) (filter (λ w. ltb 0 (length w)) parts) ArePlain
    (λ e. (record { some = some (length part) e; plain = hs.0 }, plain_parts parts hs.1)) (λ e. plain_parts parts hs.1)
  where
    some : (n : ℕ) → ltb 0 n ≡ true → 0 < n
    some n h = grind (arith, nat_tests)

pub words-plain : (line : List ℕ) → list_all is_printable line ≡ true → ArePlain (words line)
words-plain line h = plain_parts (slice_split (λ x. eqb x 32) line) (parts-split line h)

-- ---- a line by its keyword

pub record IsLane (lane : Option ℕ) : Type 0 where
  pub low : 1 ≤ in_lane lane
  pub high : in_lane lane ≤ 3

lane_of-some : (word : List ℕ) (lane : ℕ) → lane_of word ≡ Some lane → IsLane (Some lane)
lane_of-some word lane h = chosen (bytes_eq word (codes "@1")) (bytes_eq word (codes "@2")) (bytes_eq word (codes "@3")) h
  where
    at : (n : ℕ) → 1 ≤ n → n ≤ 3 → Some n ≡ Some lane → IsLane (Some lane)
    at n low high e = subst (λ n. IsLane (Some n)) (same n e) (record { low = low; high = high })
      where
        same : (n : ℕ) → Some n ≡ Some lane → n ≡ lane
        same n e = cc

    chosen : (a b c : Bool) → cond a (Some 1) (cond b (Some 2) (cond c (Some 3) None)) ≡ Some lane → IsLane (Some lane)
    chosen true b c e = at 1 (omega arith) (omega arith) e
    chosen false true c e = at 2 (omega arith) (omega arith) e
    chosen false false true e = at 3 (omega arith) (omega arith) e
    chosen false false false e = absurd (cc)

lane_of-lane : (word : List ℕ) → IsLane (lane_of word)
lane_of-lane word = step (lane_of word) refl
  where
    step : (lane : Option ℕ) → lane_of word ≡ lane → IsLane lane
    step None e = record { low = omega arith; high = omega arith }
    step (Some lane) e = lane_of-some word lane e

-- what is known of the head of a line
record IsHead (head : Head) : Type 0 where
  lane : IsLane head.lane
  args : ArePlain head.args

head_of-head : (word : List ℕ) (rest : List (List ℕ)) → ArePlain rest → IsHead (head_of word rest)
head_of-head word rest hs =
    cond_both (is_mark word) (behind_mark (lane_of word) rest) (record { marked = false; lane = None; keyword = keyword_of word; args = rest }) IsHead
    (λ e. behind rest hs) (λ e. record { lane = record { low = omega arith; high = omega arith }; args = hs })
  where
    behind : (rest : List (List ℕ)) → ArePlain rest → IsHead (behind_mark (lane_of word) rest)
    behind [] hs = record { lane = lane_of-lane word; args = tt }
    behind (next ∷ args) hs = record { lane = lane_of-lane word; args = hs.1 }

-- what every line is known to say that its keyword and its words are known to say
pub line_of-gives : (P : Line → Type 0) (config : Config) (given : ℕ) (begun : Bool) (line : List ℕ) → P Blank
    → ((lane : Option ℕ) (keyword : Option Keyword) (args : List (List ℕ)) → IsLane lane → ArePlain args → is_misplaced begun keyword ≡ false → Gives P (keyword_line config given lane keyword args))
    → Gives P (line_of config given begun line)
line_of-gives P config given begun line blank each = of_text (strip_carriage_return line)
  where
    of_head : (text : List ℕ) (head : Head) → (list_all is_printable text ≡ true → IsHead head) → Gives P (headed_line config given begun text head)
    of_head text head hs =
        let line = keyword_line config given head.lane head.keyword head.args in
        let place = (is_misplaced begun head.keyword, PLACE) ∷ [] in
        let word = (is_unknown head.keyword head.args, WORD) ∷ place in
        let lane = (has_wrong_lane head, LANE) ∷ word in
        let octet = (not (list_all is_printable text), OCTET) ∷ lane in
        Gives-unless P (ltb 10240 (length text)) LONG octet line (λ short.
        Gives-unless P (not (list_all is_printable text)) OCTET lane line (λ printed.
        Gives-unless P (has_wrong_lane head) LANE word line (λ laned.
        Gives-unless P (is_unknown head.keyword head.args) WORD place line (λ known.
        Gives-unless P (is_misplaced begun head.keyword) PLACE [] line (λ placed.
        let h = hs (not-false (list_all is_printable text) printed) in
        each head.lane head.keyword head.args h.lane h.args placed)))))

    of_words : (text : List ℕ) (ws : List (List ℕ)) → (list_all is_printable text ≡ true → ArePlain ws) → Gives P (words_line config given begun text ws)
    of_words text [] hs = blank
    of_words text (word ∷ rest) hs = of_head text (head_of word rest) (λ printed. head_of-head word rest (hs printed).1)

    of_text : (text : List ℕ) → Gives P (stripped_line config given begun text)
    of_text text = Gives-if P (is_comment text) (Ok Blank) (words_line config given begun text (words text)) (λ e. blank) (λ e. of_words text (words text) (words-plain text))

-- ---- records

-- what a line says that stands after `begin`
abbrev pub IsAfter : Config → Line → Type 0
IsAfter config Blank = Unit {0}
IsAfter config Begin = ⊥
IsAfter config Sync = Unit {0}
IsAfter config (Setting new given) = ⊥
IsAfter config (Entry r) = IsRecord config r

event_says : (config : Config) (lane : Option ℕ) (event : Happening) → IsLane lane → IsEvent config event → Gives (IsAfter config) (event_line lane event)
event_says config lane event l h = (l.low, l.high, h)

module _ (config : Config) (lane : Option ℕ) (l : IsLane lane) where
  frame_says : (args : List (List ℕ)) → Gives (IsAfter config) (frame_line config lane args)
  frame_says args =
      Gives-some (IsAfter config) (two_of args) COUNT _ (λ word is.
      Gives-some (IsAfter config) (number_in 1 60 word.0) NUMBER _ (λ port numbered.
      Gives-some (IsAfter config) (hex_in 0 2000 word.1) HEX _ (λ octets written.
      framed port octets (number_in-some 1 60 word.0 port numbered).0 (number_in-some 1 60 word.0 port numbered).1 (hex_in-some 0 2000 word.1 octets written))))
    where
      framed : (port : ℕ) (octets : List ℕ) → 1 ≤ port → port ≤ 60 → IsSized 0 2000 octets
          → Gives (IsAfter config) (unless ((not (has_port port config), PORT) ∷ (not (is_control octets) && is_some lane, LANED) ∷ [])
          (cond (is_control octets) (event_line lane (Frame port octets)) (Ok (Entry (Data port octets)))))
      framed port octets low high h =
          let read = cond (is_control octets) (event_line lane (Frame port octets)) (Ok (Entry (Data port octets))) in
          let last = (not (is_control octets) && is_some lane, LANED) ∷ [] in
          Gives-unless (IsAfter config) (not (has_port port config)) PORT last read (λ known.
          Gives-unless (IsAfter config) (not (is_control octets) && is_some lane) LANED [] read (λ free.
          let p : IsPort config port = record { low = low; high = high; known = not-false (has_port port config) known } in
          Gives-if (IsAfter config) (is_control octets) (event_line lane (Frame port octets)) (Ok (Entry (Data port octets)))
          (λ control. event_says config lane (Frame port octets) l (p, h, control)) (λ other. (p, h, other))))

  radius_says : (args : List (List ℕ)) → Gives (IsAfter config) (radius_line lane args)
  radius_says args =
      Gives-some (IsAfter config) (socket_of args) COUNT _ (λ word is.
      Gives-some (IsAfter config) (number_in 0 4 word.0) NUMBER _ (λ socket numbered.
      Gives-some (IsAfter config) (hex_in 0 5000 word.1) HEX _ (λ octets written.
      event_says config lane (Radius socket octets) l ((number_in-some 0 4 word.0 socket numbered).1, hex_in-some 0 5000 word.1 octets written))))

  dyn_says : (args : List (List ℕ)) → Gives (IsAfter config) (dyn_line lane args)
  dyn_says args =
      Gives-some (IsAfter config) (three_of args) COUNT _ (λ word is.
      Gives-some (IsAfter config) (address_of word.0) NUMBER _ (λ ip at.
      Gives-some (IsAfter config) (number_in 0 65535 word.1) NUMBER _ (λ port numbered.
      Gives-some (IsAfter config) (hex_in 0 5000 word.2) HEX _ (λ octets written.
      event_says config lane (Dynamic (record { ip = ip; port = port }) octets) l
      (address_of-some word.0 ip at, (number_in-some 0 65535 word.1 port numbered).1, hex_in-some 0 5000 word.2 octets written)))))

  port_says : (port : ℕ) (event : Happening) → (IsPort config port → IsEvent config event) → 1 ≤ port → port ≤ 60 → Gives (IsAfter config) (port_event config lane port event)
  port_says port event of_port low high =
      Gives-unless (IsAfter config) (not (has_port port config)) PORT [] (event_line lane event)
      (λ known. event_says config lane event l (of_port (record { low = low; high = high; known = not-false (has_port port config) known })))

  link_says : (args : List (List ℕ)) → Gives (IsAfter config) (link_line config lane args)
  link_says args =
      Gives-some (IsAfter config) (two_of args) COUNT _ (λ word is.
      Gives-some (IsAfter config) (number_in 1 60 word.0) NUMBER _ (λ port numbered.
      Gives-some (IsAfter config) (link_of word.1) NAME _ (λ up choice.
      port_says port (Link port up) (λ p. p) (number_in-some 1 60 word.0 port numbered).0 (number_in-some 1 60 word.0 port numbered).1)))

  control_says : (args : List (List ℕ)) → Gives (IsAfter config) (control_line config lane args)
  control_says args =
      Gives-some (IsAfter config) (two_of args) COUNT _ (λ word is.
      Gives-some (IsAfter config) (number_in 1 60 word.0) NUMBER _ (λ port numbered.
      Gives-some (IsAfter config) (control_of word.1) NAME _ (λ control choice.
      port_says port (SetControl port control) (λ p. p) (number_in-some 1 60 word.0 port numbered).0 (number_in-some 1 60 word.0 port numbered).1)))

  record_says : (word : RecordWord) (args : List (List ℕ)) → Gives (IsAfter config) (record_line config lane word args)
  record_says entry.Frame args = frame_says args
  record_says entry.Radius args = radius_says args
  record_says entry.Dyn args = dyn_says args
  record_says entry.Tick args = Gives-alone (IsAfter config) (event_line lane Second) args (event_says config lane Second l tt)
  record_says entry.Link args = link_says args
  record_says entry.Control args = control_says args

-- a line after `begin` is blank, the end of a phase or a record under the settings
pub line_of-after : (config : Config) (given : ℕ) (line : List ℕ) → Gives (IsAfter config) (line_of config given true line)
line_of-after config given line = line_of-gives (IsAfter config) config given true line tt placed
  where
    placed : (lane : Option ℕ) (keyword : Option Keyword) (args : List (List ℕ)) → IsLane lane → ArePlain args → is_misplaced true keyword ≡ false
        → Gives (IsAfter config) (keyword_line config given lane keyword args)
    placed lane (Some (IsSetting word)) args l hs e = absurd (cc)
    placed lane (Some (IsEntry word)) args l hs e = record_says config lane l word args
    placed lane (Some IsSync) args l hs e = Gives-alone (IsAfter config) (Ok Sync) args tt
    placed lane None args l hs e = tt
