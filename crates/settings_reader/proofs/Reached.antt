-- How far a reader came in a source, and how it ends.
use Rattle.std.proofs.Common.{◌≡◌, ◌≢◌, inl, inr, ℕ, ◌+◌, ◌<◌, ◌≤◌, Bool, true, false, cond, not, leb, ltb, eqb, take, List, [], ◌∷◌, ◌++◌, length, length-append, Option, None, Some, Result, Ok, Err, refl, sym, ap, ◌∙◌, subst, arith, append_assoc, append-nil}
use Rattle.std.specs.Prelude.{option_map, ⊤}
use Rattle.std.specs.Result.{IsErr, IsErrAnd}
use Rattle.std.specs.List.{before_first}
use Rattle.std.proofs.lemmas.Bool.Decides.{nat_tests}
use Rattle.std.specs.Io.KnownBytes.{Keeps, Consumes, IsAtEnd}
use Rattle.wire_defs.specs.Text.{last_line}
use Rattle.wire_defs.proofs.OutsideLemmas.{Consumes-none, Consumes-trans, Consumes-kept}
use Rattle.switch_event.specs.Config.{Config, empty}
use Rattle.trace_defs.specs.Alike.{ReadAlike, is_line_feed, len_to_feed}
use Rattle.trace_defs.specs.Line.{Line, line_of}
use Rattle.trace_defs.specs.Line.Line.{Blank, Begin, Setting}
use Rattle.trace_defs.specs.Reading.{HasRead}
use Rattle.trace_defs.specs.Trace.{Progress, add_line, after_line, progress_of, reason_of, start}
use Rattle.trace_defs.specs.Trace.Reading.{Going, Stopped}
use Rattle.trace_defs.specs.Trace.Stop.{Refused as IsRefused}
use Rattle.trace_defs.proofs.AlikeLemmas.{ReadAlike-none}
use Rattle.trace_defs.proofs.TraceLemmas.{HasRead-none, HasRead-feed}
use Rattle.serve_defs.specs.Settings.{settle, settings_of, settings_fate, settings_fate_of}
use Rattle.settings_reader.specs.declared.reader.Reader.{Reader}
use Rattle.settings_reader.specs.declared.settings_err.SettingsErr.{SettingsErr}
use Rattle.settings_reader.specs.declared.settings_err.SettingsErr.TheVariants.{NoMemory, Refused, ReadFault, TooLong}
use Rattle.settings_reader.specs.Reader.{IsAt, Leads, Stops, TakesLine, TakesOctet, IsSettled, EndsRefused, EndsText, IsTaken, settled_at_end}
use Rattle.settings_reader.specs.Settings.{GivesSettings, EndsAfter, Leaves, SettingsEnd}
use Rattle.settings_reader.proofs.Settling.{none_begins, settle_next, settle_stop, settings-ended, settings-stop, settings-long, settings-end, settled-end, settled-ended, fits_within}

-- ---- at first, and after a line

pub start_at : (reader : Reader) → reader.config ≡ empty → reader.given ≡ 0 → reader.lines ≡ 0 → reader.line ≡ record { text = []; ended = false } → IsAt reader []
start_at reader config noted lines line = record {
  p = start empty;
  part = [];
  config = config;
  noted = noted;
  lines = lines;
  unbegun = refl;
  kept = subst (λ l. ReadAlike l []) (sym (ap (λ l. l.text) line)) ReadAlike-none;
  read = HasRead-none 0 empty;
}

-- what a line that was read leads to
leads_as : (old new : Reader) (given : List ℕ) (at : IsAt old given) (l : Line) (ends : Bool) (q : Progress)
    → line_of at.p.config at.p.given false at.part ≡ Ok l → add_line 0 at.p (Ok l) ≡ Ok q → q.begun ≡ ends → new.config ≡ q.config → new.given ≡ q.given → new.lines ≡ q.lines
    → Leads at.p at.part new ends
leads_as old new given at l ends q means next begun config noted lines = record {
  q = q;
  next = ap (λ b. add_line 0 at.p (line_of at.p.config at.p.given b at.part)) at.unbegun ∙ ap (add_line 0 at.p) means ∙ next;
  begun = begun;
  config = config;
  noted = noted;
  lines = lines;
}

-- a line is read as what is kept of it
line_is : (reader : Reader) (given : List ℕ) (at : IsAt reader given) (l : Result Line ℕ) → line_of reader.config reader.given false reader.line.text ≡ l
    → line_of at.p.config at.p.given false at.part ≡ l
line_is reader given at l means =
    ap (λ c. line_of c at.p.given false at.part) (sym at.config) ∙ ap (λ n. line_of reader.config n false at.part) (sym at.noted)
    ∙ sym (kept_as at.part at.kept) ∙ means
  where
    kept_as : (line : List ℕ) → ReadAlike reader.line.text line → line_of reader.config reader.given false reader.line.text ≡ line_of reader.config reader.given false line
    kept_as line h =
        ap (line_of reader.config reader.given false) (sym (append-nil reader.line.text)) ∙ h.alike reader.config reader.given false []
        ∙ ap (line_of reader.config reader.given false) (append-nil line)

pub leads_blank : (old new : Reader) (given : List ℕ) (at : IsAt old given) → line_of old.config old.given false old.line.text ≡ Ok Blank
    → new.config ≡ old.config → new.given ≡ old.given → new.lines ≡ old.lines + 1 → Leads at.p at.part new false
leads_blank old new given at means config noted lines =
    leads_as old new given at Blank false (record at.p { lines = at.p.lines + 1 }) (line_is old given at (Ok Blank) means) refl at.unbegun (config ∙ at.config) (noted ∙ at.noted)
    (lines ∙ ap (λ n. n + 1) at.lines)

pub leads_begin : (old new : Reader) (given : List ℕ) (at : IsAt old given) → line_of old.config old.given false old.line.text ≡ Ok Begin
    → new.config ≡ old.config → new.given ≡ old.given → new.lines ≡ old.lines + 1 → Leads at.p at.part new true
leads_begin old new given at means config noted lines =
    leads_as old new given at Begin true (record at.p { lines = at.p.lines + 1; begun = true }) (line_is old given at (Ok Begin) means) refl refl (config ∙ at.config) (noted ∙ at.noted)
    (lines ∙ ap (λ n. n + 1) at.lines)

pub leads_setting : (old new : Reader) (given : List ℕ) (at : IsAt old given) → line_of old.config old.given false old.line.text ≡ Ok (Setting new.config new.given)
    → new.lines ≡ old.lines + 1 → Leads at.p at.part new false
leads_setting old new given at means lines =
    leads_as old new given at (Setting new.config new.given) false (record at.p { lines = at.p.lines + 1; config = new.config; given = new.given })
    (line_is old given at (Ok (Setting new.config new.given)) means) refl at.unbegun refl refl (lines ∙ ap (λ n. n + 1) at.lines)

pub stops_refused : (old : Reader) (given : List ℕ) (why line : ℕ) → line_of old.config old.given false old.line.text ≡ Err why → line ≡ old.lines + 1
    → IsAt old given → Stops given line why
stops_refused old given why line means is at = record {
  p = at.p;
  part = at.part;
  unbegun = at.unbegun;
  read = at.read;
  next = ap (λ b. add_line 0 at.p (line_of at.p.config at.p.given b at.part)) at.unbegun ∙ ap (add_line 0 at.p) (line_is old given at (Err why) means);
  line_is = is ∙ ap (λ n. n + 1) at.lines;
}

-- ---- an octet

-- an octet that ends no line, fed alone
pub fed_alone : (octet : ℕ) → octet ≢ 10 → (before_first is_line_feed (octet ∷ []) ≡ octet ∷ []) × (len_to_feed (octet ∷ []) ≡ None)
fed_alone octet other = by (eqb octet 10) refl
  where
    is : (octet : ℕ) → eqb octet 10 ≡ true → octet ≡ 10
    is octet e = grind (arith, nat_tests)

    by : (b : Bool) → eqb octet 10 ≡ b → (before_first is_line_feed (octet ∷ []) ≡ octet ∷ []) × (len_to_feed (octet ∷ []) ≡ None)
    by true e = absurd (other (is octet e))
    by false e = (
      ap (λ t. take (cond (not t) 1 0) (octet ∷ [])) e,
      ap (λ t. option_map (λ at. at + 1) (cond (ltb (cond (not t) 1 0) 1) (Some (cond (not t) 1 0)) None)) e,
    )

-- an octet that ends no line
pub takes_other : (octet : ℕ) (old new : Reader) → new.config ≡ old.config → new.given ≡ old.given → new.lines ≡ old.lines
    → ((given part : List ℕ) (p : Progress) → HasRead 0 empty given p part → HasRead 0 empty (given ++ octet ∷ []) p (part ++ octet ∷ []))
    → ((line : List ℕ) → ReadAlike old.line.text line → ReadAlike new.line.text (line ++ octet ∷ []))
    → (given : List ℕ) → IsAt old given → IsAt new (given ++ octet ∷ [])
takes_other octet old new config noted lines reads keeps given at = record {
  p = at.p;
  part = at.part ++ octet ∷ [];
  config = config ∙ at.config;
  noted = noted ∙ at.noted;
  lines = lines ∙ at.lines;
  unbegun = at.unbegun;
  kept = keeps at.part at.kept;
  read = reads given at.part at.p at.read;
}

-- a reader whose line grew by nothing is as far as before
pub same_line : (old mid : Reader) → mid.config ≡ old.config → mid.given ≡ old.given → mid.lines ≡ old.lines → ((line : List ℕ) → ReadAlike old.line.text line → ReadAlike mid.line.text line)
    → (given : List ℕ) → IsAt old given → IsAt mid given
same_line old mid config noted lines keeps given at = record {
  p = at.p;
  part = at.part;
  config = config ∙ at.config;
  noted = noted ∙ at.noted;
  lines = lines ∙ at.lines;
  unbegun = at.unbegun;
  kept = keeps at.part at.kept;
  read = at.read;
}

-- a line feed that ends a line
pub takes_feed : (octet : ℕ) (old mid taken new : Reader) (ends : Bool) → octet ≡ 10 → ((given : List ℕ) → IsAt old given → IsAt mid given) → TakesLine mid taken (Ok ends)
    → new.config ≡ taken.config → new.given ≡ taken.given → new.lines ≡ taken.lines → new.line ≡ record { text = []; ended = false } → TakesOctet octet old new (Ok ends)
takes_feed octet old mid taken new true feed there takes config noted lines line = λ given at.
    let m = there given at in
    let l = takes given m in
    subst (λ o. IsSettled (given ++ o ∷ []) (10 ∷ []) new) (sym feed) (record {
      q = l.q;
      ends = record { before = given; line = m.part; p = m.p; split = refl; read = m.read; unbegun = m.unbegun; next = l.next; begun = l.begun };
      config = config ∙ l.config;
    })
takes_feed octet old mid taken new false feed there takes config noted lines line = λ given at.
    let m = there given at in
    let l = takes given m in
    subst (λ o. IsAt new (given ++ o ∷ [])) (sym feed) (record {
      p = l.q;
      part = [];
      config = config ∙ l.config;
      noted = noted ∙ l.noted;
      lines = lines ∙ l.lines;
      unbegun = l.begun;
      kept = subst (λ t. ReadAlike t []) (sym (ap (λ t. t.text) line)) ReadAlike-none;
      read = HasRead-feed 0 empty given m.p l.q m.part m.read l.next;
    })

-- a line that ended with the octet ends the reading
pub stops_feed : (octet : ℕ) (old mid new : Reader) (e : SettingsErr) → octet ≡ 10 → ((given : List ℕ) → IsAt old given → IsAt mid given) → TakesLine mid new (Err e)
    → TakesOctet octet old new (Err e)
stops_feed octet old mid new NoMemory feed there takes = tt
stops_feed octet old mid new (Refused line why) feed there takes = (feed, λ given at. takes given (there given at))
stops_feed octet old mid new ReadFault feed there takes = absurd takes
stops_feed octet old mid new TooLong feed there takes = absurd takes

-- ---- the end of the text

none_open : (given part : List ℕ) (p : Progress) → HasRead 0 empty given p part → p.begun ≡ false → part ≡ [] → settled_at_end given ≡ Going p
none_open given part p read unbegun none = settled-end given part p read unbegun ∙ ap (λ l. settle p (last_line l)) none

one_open : (given part : List ℕ) (p : Progress) → HasRead 0 empty given p part → p.begun ≡ false → part ≢ [] → settled_at_end given ≡ settle p (part ∷ [])
one_open given part p read unbegun some = settled-end given part p read unbegun ∙ ap (settle p) (one part some)
  where
    one : (part : List ℕ) → part ≢ [] → last_line part ≡ part ∷ []
    one [] some = absurd (some refl)
    one (x ∷ rest) some = refl

missing : (given : List ℕ) (p : Progress) (line : ℕ) → settled_at_end given ≡ Going p → p.begun ≡ false → line ≡ p.lines + 1 → EndsRefused given line 13
missing given p line going unbegun is = record {
  fated = ap (settings_fate_of true) going ∙ ap (λ b. cond b 0 3) unbegun;
  line_is = is ∙ ap (λ r. (progress_of r).lines + 1) (sym going);
  why_is = ap reason_of (sym going);
}

-- no octet stands behind the last line feed
ends_nowhere : (reader : Reader) (line : ℕ) → reader.line.text ≡ [] → line ≡ reader.lines + 1 → (given : List ℕ) → IsAt reader given → EndsRefused given line 13
ends_nowhere reader line none is given at =
    missing given at.p line (none_open given at.part at.p at.read at.unbegun (at.kept.none none)) at.unbegun (is ∙ ap (λ n. n + 1) at.lines)

pub nowhere : (old new : Reader) (e : SettingsErr) → old.line.text ≡ [] → e ≡ Refused (old.lines + 1) 13 → EndsText old new (Err e)
nowhere old new e none is = subst (λ x. EndsText old new (Err x)) (sym is) (ends_nowhere old (old.lines + 1) none refl)

-- the last line does not end the settings
ends_open : (old new : Reader) (line : ℕ) → old.line.text ≢ [] → TakesLine old new (Ok false) → line ≡ new.lines + 1 → (given : List ℕ) → IsAt old given → EndsRefused given line 13
ends_open old new line some takes is given at =
    let l = takes given at in
    missing given l.q line
    (one_open given at.part at.p at.read at.unbegun (λ none. some (at.kept.some none)) ∙ settle_next at.p l.q at.part [] at.unbegun l.next)
    l.begun (is ∙ ap (λ n. n + 1) l.lines)

pub unended : (old new : Reader) (e : SettingsErr) → old.line.text ≢ [] → TakesLine old new (Ok false) → e ≡ Refused (new.lines + 1) 13 → EndsText old new (Err e)
unended old new e some takes is = subst (λ x. EndsText old new (Err x)) (sym is) (ends_open old new (new.lines + 1) some takes refl)

-- it does
pub ends_settled : (old new : Reader) → TakesLine old new (Ok true) → (given : List ℕ) → IsAt old given → IsSettled given [] new
ends_settled old new takes given at =
    let l = takes given at in
    record {
      q = l.q;
      ends = record { before = given; line = at.part; p = at.p; split = sym (append-nil given); read = at.read; unbegun = at.unbegun; next = l.next; begun = l.begun };
      config = l.config;
    }

-- it is refused
pub ends_line : (old new : Reader) (e : SettingsErr) → old.line.text ≢ [] → TakesLine old new (Err e) → EndsText old new (Err e)
ends_line old new NoMemory some takes = tt
ends_line old new ReadFault some takes = absurd takes
ends_line old new TooLong some takes = absurd takes
ends_line old new (Refused line why) some takes = λ given at.
    let s = takes given at in
    refused given at s
  where
    refused : (given : List ℕ) → IsAt old given → Stops given line why → EndsRefused given line why
    refused given at s =
        let part_is : s.part ≡ at.part = sym s.read.line ∙ at.read.line in
        let stopped : settled_at_end given ≡ Stopped s.p (IsRefused why) =
        one_open given s.part s.p s.read s.unbegun (λ none. some (at.kept.some (sym part_is ∙ none))) ∙ settle_stop s.p s.part [] (IsRefused why) s.unbegun s.next in record {
          fated = ap (settings_fate_of true) stopped;
          line_is = s.line_is ∙ ap (λ r. (progress_of r).lines + 1) (sym stopped);
          why_is = ap reason_of (sym stopped);
        }

-- ---- a source

-- a reader took these octets of a source
pub record HasReached (before left : Option (List ℕ)) (count : ℕ) (reader : Reader) : Type 0 where
  pub given : List ℕ
  pub taken : Consumes before left given
  pub counted : length given ≡ count
  pub at : IsAt reader given

pub reached_none : (before : Option (List ℕ)) (reader : Reader) → IsAt reader [] → HasReached before before 0 reader
reached_none before reader at = record { given = []; taken = Consumes-none before; counted = refl; at = at }

pub reached_more : (before left rest : Option (List ℕ)) (count octet : ℕ) (old new : Reader) → HasReached before left count old → Consumes left rest (octet ∷ []) → TakesOctet octet old new (Ok false)
    → HasReached before rest (count + 1) new
reached_more before left rest count octet old new r one takes = record {
  given = r.given ++ octet ∷ [];
  taken = Consumes-trans before left rest r.given (octet ∷ []) r.taken one;
  counted = length-append r.given (octet ∷ []) ∙ ap (λ n. n + 1) r.counted;
  at = takes r.given r.at;
}

some_left : (left : Option (List ℕ)) → (rest : List ℕ) × Leaves left rest
some_left None = ([], tt)
some_left (Some rest) = (rest, refl)

none_left : (left : Option (List ℕ)) → IsAtEnd left → Leaves left []
none_left None e = tt
none_left (Some rest) e = e

-- there was no memory to begin
pub end_nothing : (limit : ℕ) (before : Option (List ℕ)) (result : Result Config SettingsErr) → IsErr result → IsErrAnd result (λ e. e ≡ NoMemory) → SettingsEnd limit before before result
end_nothing limit before (Ok config) err none = absurd (cc)
end_nothing limit before (Err e) err none =
    let more = some_left before in
    subst (λ x. SettingsEnd limit before before (Err x)) (sym none) (record { given = []; rest = more.0; taken = Consumes-none before; follows = more.1; ends = tt })

pub end_fault : (limit : ℕ) (before left rest : Option (List ℕ)) (count : ℕ) (reader : Reader) → HasReached before left count reader → Keeps left rest
    → SettingsEnd limit before rest (Err ReadFault)
end_fault limit before left rest count reader r kept =
    let more = some_left rest in record {
      given = r.given;
      rest = more.0;
      taken = Consumes-kept before left rest r.given r.taken kept;
      follows = more.1;
      ends = record { p = r.at.p; lines = r.at.read.lines; unbegun = r.at.unbegun };
    }

pub end_long : (limit : ℕ) (before left rest : Option (List ℕ)) (count octet : ℕ) (reader : Reader) → HasReached before left count reader → count ≡ limit → Consumes left rest (octet ∷ [])
    → SettingsEnd limit before rest (Err TooLong)
end_long limit before left rest count octet reader r full one =
    let more = some_left rest in record {
      given = r.given ++ octet ∷ [];
      rest = more.0;
      taken = Consumes-trans before left rest r.given (octet ∷ []) r.taken one;
      follows = more.1;
      ends = subst (λ text. settings_fate limit text ≡ 8) (sym (append_assoc r.given (octet ∷ []) more.0))
          (settings-long limit r.given (octet ∷ more.0) r.at.part r.at.p r.at.read r.at.unbegun (r.counted ∙ full) (omega arith));
    }

gives_ended : (limit : ℕ) (text : List ℕ) (q : Progress) (config : Config) → settings_of limit text ≡ Going q → q.begun ≡ true → config ≡ q.config → GivesSettings limit text config
gives_ended limit text q config going begun is = record {
  fated = ap (settings_fate_of (leb (length text) limit)) going ∙ ap (λ b. cond b 0 (cond (leb (length text) limit) 3 8)) begun;
  settings = ap (λ r. (progress_of r).config) going ∙ sym is;
}

pub end_octet : (limit : ℕ) (before left rest : Option (List ℕ)) (count octet : ℕ) (old new : Reader) → HasReached before left count old → count < limit → Consumes left rest (octet ∷ [])
    → TakesOctet octet old new (Ok true) → SettingsEnd limit before rest (Ok new.config)
end_octet limit before left rest count octet old new r short one takes =
    let more = some_left rest in
    let s = takes r.given r.at in record {
      given = r.given ++ octet ∷ [];
      rest = more.0;
      taken = Consumes-trans before left rest r.given (octet ∷ []) r.taken one;
      follows = more.1;
      ends = (
        gives_ended limit ((r.given ++ octet ∷ []) ++ more.0) s.q new.config
            (ap (λ l. settings_of limit (l ++ more.0)) s.ends.split ∙ ap (settings_of limit) (append_assoc s.ends.before (10 ∷ []) more.0)
            ∙ settings-ended limit s.ends.before more.0 s.ends.line s.ends.p s.q s.ends.read s.ends.unbegun (before_short s) s.ends.next s.ends.begun) s.ends.begun s.config,
        record { q = s.q; settings = sym s.config; place = inl s.ends },
      );
    }
  where
    before_short : (s : IsSettled (r.given ++ octet ∷ []) (10 ∷ []) new) → length s.ends.before < limit
    before_short s = omega (arith, short, r.counted, ap length s.ends.split, length-append r.given (octet ∷ []), length-append s.ends.before (10 ∷ []))

pub end_stops : (limit : ℕ) (before left rest : Option (List ℕ)) (count octet : ℕ) (old new : Reader) (e : SettingsErr) → HasReached before left count old → count < limit
    → Consumes left rest (octet ∷ []) → TakesOctet octet old new (Err e) → SettingsEnd limit before rest (Err e)
end_stops limit before left rest count octet old new e r short one takes =
    let more = some_left rest in record {
      given = r.given ++ octet ∷ [];
      rest = more.0;
      taken = Consumes-trans before left rest r.given (octet ∷ []) r.taken one;
      follows = more.1;
      ends = by e takes more.0;
    }
  where
    by : (e : SettingsErr) → TakesOctet octet old new (Err e) → (more : List ℕ) → EndsAfter limit (r.given ++ octet ∷ []) more rest (Err e)
    by NoMemory takes more = tt
    by ReadFault takes more = absurd takes
    by TooLong takes more = absurd takes
    by (Refused line why) takes more =
        let s = takes.1 r.given r.at in
        let stopped : settings_of limit ((r.given ++ octet ∷ []) ++ more) ≡ Stopped s.p (IsRefused why) =
        ap (λ o. settings_of limit ((r.given ++ o ∷ []) ++ more)) takes.0 ∙ ap (settings_of limit) (append_assoc r.given (10 ∷ []) more)
        ∙ settings-stop limit r.given more s.part s.p (IsRefused why) s.read s.unbegun (omega (arith, short, r.counted)) s.next in record {
          fated = ap (settings_fate_of (leb (length ((r.given ++ octet ∷ []) ++ more)) limit)) stopped;
          line_is = s.line_is ∙ ap (λ x. (progress_of x).lines + 1) (sym stopped);
          why_is = ap reason_of (sym stopped);
        }

pub end_text : (limit : ℕ) (before left rest : Option (List ℕ)) (count : ℕ) (old new : Reader) (result : Result ⊤ SettingsErr) → HasReached before left count old → count ≤ limit
    → Keeps left rest → IsAtEnd rest → EndsText old new result → IsTaken limit before rest new.config result
end_text limit before left rest count old new result r short kept end ends = by result ends
  where
    whole : settings_of limit (r.given ++ []) ≡ settled_at_end r.given
    whole = ap (settings_of limit) (append-nil r.given) ∙ settings-end limit r.given (omega (arith, short, r.counted))

    reading : (done : Result Config SettingsErr) → EndsAfter limit r.given [] rest done → SettingsEnd limit before rest done
    reading done ends = record { given = r.given; rest = []; taken = Consumes-kept before left rest r.given r.taken kept; follows = none_left rest end; ends = ends }

    fits : leb (length (r.given ++ [])) limit ≡ true
    fits = ap (λ l. leb (length l) limit) (append-nil r.given) ∙ fits_within (length r.given) limit (omega (arith, short, r.counted))

    ended : (s : IsSettled r.given [] new) → settled_at_end r.given ≡ Going s.q
    ended s =
        let e = s.ends in
        let given_is : r.given ≡ e.before = e.split ∙ append-nil e.before in
        let one : settled_at_end e.before ≡ settle e.p (last_line e.line) = settled-end e.before e.line e.p e.read e.unbegun in
        ap settled_at_end given_is ∙ one ∙ last e.line refl
      where
        last : (line : List ℕ) → line ≡ s.ends.line → settle s.ends.p (last_line line) ≡ Going s.q
        last [] none = absurd (none_begins s.ends.p s.q s.ends.line s.ends.next s.ends.unbegun s.ends.begun none)
        last (x ∷ rest) is = settled-ended s.ends.p s.q (x ∷ rest) s.ends.unbegun (ap (after_line 0 s.ends.p) is ∙ s.ends.next) s.ends.begun

    by : (result : Result ⊤ SettingsErr) → EndsText old new result → IsTaken limit before rest new.config result
    by (Ok done) ends =
        let s = ends r.given r.at in
        reading (Ok new.config) (
          gives_ended limit (r.given ++ []) s.q new.config (whole ∙ ended s) s.ends.begun s.config,
          record { q = s.q; settings = sym s.config; place = inr (end, s.ends) },
        )
    by (Err NoMemory) ends = reading (Err NoMemory) tt
    by (Err ReadFault) ends = absurd ends
    by (Err TooLong) ends = absurd ends
    by (Err (Refused line why)) ends =
        let s = ends r.given r.at in
        reading (Err (Refused line why)) (record {
          fated = ap (λ b. settings_fate_of b (settings_of limit (r.given ++ []))) fits ∙ ap (settings_fate_of true) whole ∙ s.fated;
          line_is = s.line_is ∙ ap (λ x. (progress_of x).lines + 1) (sym whole);
          why_is = s.why_is ∙ ap reason_of (sym whole);
        })
