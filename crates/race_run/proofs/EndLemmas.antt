-- How a run ends: at a piece of a line, and where no octet is left.
use Rattle.std.proofs.Common.{inl, inr, ◌≡◌, ◌≢◌, ℕ, ◌+◌, ◌<◌, ◌≤◌, true, false, cond, List, [], ◌∷◌, ◌++◌, length, length-append, Option, Ok, Err, refl, sym, ap, ◌∙◌, subst, arith, append_assoc, append-nil}
use Rattle.std.specs.Prelude.{OnOk, IfErr, Result}
use Rattle.std.specs.Io.KnownBytes.{Keeps, Consumes, IsAtEnd}
use Rattle.wire_defs.specs.Text.{last_line}
use Rattle.wire_defs.proofs.OutsideLemmas.{Appends-none, Appends-kept, Consumes-none, Consumes-trans, Consumes-kept}
use Rattle.switch_event.specs.Config.{Config, empty}
use Rattle.trace_defs.specs.Alike.{ReadAlike}
use Rattle.trace_defs.proofs.AlikeLemmas.{ReadAlike-none}
use Rattle.trace_defs.specs.Reading.{HasRead}
use Rattle.trace_defs.specs.Trace.{Progress, read_lines, progress_of, reason_of, start, after_line}
use Rattle.trace_defs.specs.Trace.Stop.{Refused as IsRefused, Full as IsFull}
use Rattle.trace_defs.proofs.TraceLemmas.{HasRead-none, HasRead-feed, trace_of-long, trace_of-end, read_lines-next, read_lines-stop}
use Rattle.trace_defs.specs.Entered.{entered_all}
use Rattle.race_run.specs.declared.run.Run.{Run}
use Rattle.race_run.specs.declared.ending.Ending.{Ending}
use Rattle.race_run.specs.declared.ending.Ending.TheVariants.{Done, NoMemory, Refused, ReadFault, WriteFault, Full, TooLong}
use Rattle.race_run.specs.Runs.{Phased}
use Rattle.race_run.specs.Ending.{EndsByFate, IsRefusedAt, TakesPhases, TakesEnded, EndsAfter, RunEnds}
use Rattle.race_run.specs.Run.{OfLine, IsAt, IsStart, Halts, StopsAtPiece, Steps, EndsTrace, EndsAtEnd, TakesPiece, HoldsLine, ended}
use Rattle.race_run.proofs.PieceLemmas.{IsPlain, HasRead-plain}
use Rattle.race_run.proofs.StepLemmas.{IsAt-line, ran_of}
use Rattle.race_run.proofs.FateLemmas.{contradiction, other_way, each, at_end, fits_within, EndsByFate-stopped, EndsByFate-going, EndsByFate-line, IsRefusedAt-stopped, IsRefusedAt-line}

-- a run was given these octets and has not ended
pub record HasReached {R : Type 0} (stands gave : R → Phased) (room : ℕ) (config : Config) (before left origin taken : Option (List ℕ)) (count : ℕ) (run : Run) (s : R) : Type 0 where
  pub given : List ℕ
  pub p : Progress
  pub consumed : Consumes before left given
  pub counted : length given ≡ count
  pub at : IsAt stands gave origin taken run s p
  pub read : HoldsLine room config given p run

none_part : (run : Run) (part : List ℕ) → ReadAlike run.line.text part → run.line.text ≡ [] → part ≡ []
none_part run part kept none = kept.none none

some_part : (run : Run) (part : List ℕ) → ReadAlike run.line.text part → run.line.text ≢ [] → part ≢ []
some_part run part kept some = λ none. some (kept.some none)

one_line : (part : List ℕ) → part ≢ [] → last_line part ≡ part ∷ []
one_line [] some = absurd (some refl)
one_line (x ∷ rest) some = refl

module _ {R : Type 0} (stands gave : R → Phased) where
  -- a line that ends the run, as the octet that ends the line was taken
  StopsAtPiece-feed : (room : ℕ) (taken after : Option (List ℕ)) (run : Run) (s t : R) (ending : Ending) → OfLine run (λ line. Halts stands gave (λ p. after_line room p line) taken after run s t ending)
      → StopsAtPiece stands gave room (10 ∷ []) taken after run s t ending
  StopsAtPiece-feed room taken after run s t (Refused line why) h = λ limit config origin given p at read short left.
      let ends = h read.part read.kept origin p at in
      each left (λ rest. (
        EndsByFate-line (stands t) limit room config given rest read.part origin after p (IsRefused why) 3 read.read (omega (arith, short)) ends.0 (λ fits. refl) ends.2,
        IsRefusedAt-line limit room config given rest read.part p line why read.read (omega (arith, short)) ends.0 ends.1,
      ))
  StopsAtPiece-feed room taken after run s t Full h = λ limit config origin given p at read short left.
      let ends = h read.part read.kept origin p at in
      each left (λ rest. EndsByFate-line (stands t) limit room config given rest read.part origin after p IsFull 6 read.read (omega (arith, short)) ends.0 (λ fits. refl) ends.1)
  StopsAtPiece-feed room taken after run s t WriteFault h = λ limit config origin given p at read short left.
      let half = h read.part read.kept origin p at in
      record {
        p = p;
        place = inl (record { before = given; line = read.part; q = half.0; split = refl; read = read.read; next = half.1; phase = half.2 });
        part = half.3;
        short = omega (arith, length-append given (10 ∷ []));
      }
  StopsAtPiece-feed room taken after run s t NoMemory h = λ limit config origin given p at read short left. record {
    p = p;
    place = inl (record { before = given; last = 10 ∷ []; split = refl; one = omega arith; lines = read.read.lines });
    output = h read.part read.kept origin p at;
    short = omega (arith, length-append given (10 ∷ []));
  }
  StopsAtPiece-feed room taken after run s t Done h = λ limit config origin given p at read short left. absurd (h read.part read.kept)
  StopsAtPiece-feed room taken after run s t ReadFault h = λ limit config origin given p at read short left. absurd (h read.part read.kept)
  StopsAtPiece-feed room taken after run s t TooLong h = λ limit config origin given p at read short left. absurd (h read.part read.kept)

  -- a trace without the word that ends the settings
  pub EndsTrace-missing : (room : ℕ) (taken after : Option (List ℕ)) (run : Run) (s : R) → run.begun ≡ false → Keeps taken after → EndsTrace stands gave room taken after run s s (Refused (run.lines + 1) 13)
  EndsTrace-missing room taken after run s none kept = λ limit config origin text p at trace short left end.
      let not_begun : p.begun ≡ false = sym at.begun ∙ none in
      let had = ran_of stands gave origin taken run s p at in
      let output : TakesEnded (stands s) origin after p = record { text = had.text; for_phases = had.for_phases; taken = Appends-kept origin taken after _ had.taken kept } in
      at_end (λ rest. EndsByFate (stands s) limit room config (text ++ rest) origin after 3 × IsRefusedAt limit room config (text ++ rest) (run.lines + 1) 13) left end
      (subst (λ l. EndsByFate (stands s) limit room config l origin after 3 × IsRefusedAt limit room config l (run.lines + 1) 13) (sym (append-nil text)) (
        EndsByFate-going (stands s) limit room config text origin after p true 3 trace (fits_within (length text) limit short) (ap (λ b. cond b 0 3) not_begun)
            (subst (λ b. TakesPhases (stands s) origin after p.config (cond b (p.done ++ p.current ∷ []) p.done)) (sym not_begun) output),
        record { line_is = ap (λ n. n + 1) at.lines ∙ ap (λ r. (progress_of r).lines + 1) (sym trace); why_is = ap reason_of (sym trace) },
      ))

  -- the last phase was ended
  pub EndsTrace-done : (room : ℕ) (taken after : Option (List ℕ)) (old new : Run) (s t : R) → old.begun ≡ true → Steps stands gave (λ p. Ok (ended p)) taken after old new s t
      → EndsTrace stands gave room taken after old s t Done
  EndsTrace-done room taken after old new s t begun steps = λ limit config origin text p at trace short left end.
      let has_begun : p.begun ≡ true = sym at.begun ∙ begun in
      let step = steps origin p at in
      let same : ended p ≡ step.0 = cc in
      let now = subst (λ q. IsAt stands gave origin after new t q) (sym same) step.2 in (
        end,
        EndsByFate-going (stands t) limit room config text origin after p true 0 trace (fits_within (length text) limit short) (ap (λ b. cond b 0 3) has_begun)
            (subst (λ b. TakesPhases (stands t) origin after p.config (cond b (p.done ++ p.current ∷ []) p.done)) (sym has_begun) (ran_of stands gave origin after new t (ended p) now)),
      )

  -- the last phase was not written
  pub EndsTrace-halts : (room : ℕ) (taken after : Option (List ℕ)) (old : Run) (s t : R) (ending : Ending) → Halts stands gave (λ p. Ok (ended p)) taken after old s t ending → EndsTrace stands gave room taken after old s t ending
  EndsTrace-halts room taken after old s t (Refused line why) h = λ limit config origin text p at trace short left end. absurd (contradiction (h origin p at).0)
  EndsTrace-halts room taken after old s t Full h = λ limit config origin text p at trace short left end. absurd (contradiction (h origin p at).0)
  EndsTrace-halts room taken after old s t WriteFault h = λ limit config origin text p at trace short left end.
      let half = h origin p at in
      record { p = p; place = inr (end, inr trace); part = half.3; short = short }
  EndsTrace-halts room taken after old s t NoMemory h = λ limit config origin text p at trace short left end.
      record { p = p; place = inr (end, trace); output = h origin p at; short = short }
  EndsTrace-halts room taken after old s t Done h = absurd h
  EndsTrace-halts room taken after old s t ReadFault h = absurd h
  EndsTrace-halts room taken after old s t TooLong h = absurd h

  -- a line was ended
  pub TakesPiece-feed : {T E : Type 0} (r : Result T E) (room : ℕ) (piece front : List ℕ) (taken after : Option (List ℕ)) (old mid new : Run) (s t : R) → (piece ≡ front ++ 10 ∷ []) × IsPlain front → mid ≡ record old { line = mid.line }
      → ((line : List ℕ) → ReadAlike old.line.text line → ReadAlike mid.line.text (line ++ front)) → OfLine mid (λ line. OnOk r (Steps stands gave (λ p. after_line room p line) taken after mid new s t))
      → OnOk r (new.line ≡ record { text = []; ended = false }) → OnOk r (TakesPiece stands gave room piece taken after old new s t)
  TakesPiece-feed (Err e) room piece front taken after old mid new s t feed same keeps steps next = tt
  TakesPiece-feed (Ok x) room piece front taken after old mid new s t feed same keeps steps next = λ config origin given p at held.
      let read = HasRead-plain room config given p held.part front held.read feed.1 in
      let step = steps (held.part ++ front) (keeps held.part held.kept) origin p (IsAt-line stands gave origin taken old mid s p same at) in (
        step.0,
        step.2,
        record {
          part = [];
          kept = subst (λ l. ReadAlike l []) (sym (ap (λ l. l.text) next)) ReadAlike-none;
          read = subst (λ l. HasRead room config l step.0 []) (append_assoc given front (10 ∷ []) ∙ ap (λ l. given ++ l) (sym feed.0)) (HasRead-feed room config (given ++ front) p step.0 (held.part ++ front) read step.1);
        },
      )

  -- or it ends the run
  pub StopsAtPiece-fed : {T : Type 0} (r : Result T Ending) (room : ℕ) (piece front : List ℕ) (taken after : Option (List ℕ)) (old mid : Run) (s t : R) → (piece ≡ front ++ 10 ∷ []) × IsPlain front → mid ≡ record old { line = mid.line }
      → ((line : List ℕ) → ReadAlike old.line.text line → ReadAlike mid.line.text (line ++ front)) → OfLine mid (λ line. IfErr r (λ e. Halts stands gave (λ p. after_line room p line) taken after mid s t e))
      → IfErr r (λ e. StopsAtPiece stands gave room piece taken after old s t e)
  StopsAtPiece-fed (Ok x) room piece front taken after old mid s t feed same keeps halts = tt
  StopsAtPiece-fed (Err e) room piece front taken after old mid s t feed same keeps halts = λ limit config origin given p at held short left.
      subst (λ l. EndsAfter (gave t) (stands t) limit room config l left origin after e) (append_assoc given front (10 ∷ []) ∙ ap (λ l. given ++ l) (sym feed.0))
      (StopsAtPiece-feed room taken after mid s t e halts limit config origin (given ++ front) p (IsAt-line stands gave origin taken old mid s p same at)
      (record { part = held.part ++ front; kept = keeps held.part held.kept; read = HasRead-plain room config given p held.part front held.read feed.1 })
      (omega (arith, short, ap length feed.0, length-append given front, length-append front (10 ∷ []))) left)

  -- no octet stands after the last line feed
  pub EndsAtEnd-none : (room : ℕ) (taken after : Option (List ℕ)) (run : Run) (s t : R) (ending : Ending) → run.line.text ≡ [] → EndsTrace stands gave room taken after run s t ending → EndsAtEnd stands gave room taken after run s t ending
  EndsAtEnd-none room taken after run s t ending none ends = λ limit config origin given p at read short left end.
      ends limit config origin given p at ((trace_of-end limit room config given read.part p read.read short).0 ∙ ap (λ l. read_lines room p (last_line l)) (none_part run read.part read.kept none)) short left end

  -- the last line was taken, and then the last phase ended
  pub EndsAtEnd-line : (room : ℕ) (taken mid after : Option (List ℕ)) (old new : Run) (s between t : R) (ending : Ending) → old.line.text ≢ []
      → OfLine old (λ line. Steps stands gave (λ p. after_line room p line) taken mid old new s between) → EndsTrace stands gave room mid after new between t ending → EndsAtEnd stands gave room taken after old s t ending
  EndsAtEnd-line room taken mid after old new s between t ending some steps ends = λ limit config origin given p at read short left end.
      let step = steps read.part read.kept origin p at in
      ends limit config origin given step.0 step.2
      ((trace_of-end limit room config given read.part p read.read short).0 ∙ ap (read_lines room p) (one_line read.part (some_part old read.part read.kept some)) ∙ read_lines-next room p step.0 read.part [] step.1)
      short left end

  -- the last line stops the run
  pub EndsAtEnd-halts : (room : ℕ) (taken after : Option (List ℕ)) (run : Run) (s t : R) (ending : Ending) → run.line.text ≢ [] → OfLine run (λ line. Halts stands gave (λ p. after_line room p line) taken after run s t ending)
      → EndsAtEnd stands gave room taken after run s t ending
  EndsAtEnd-halts room taken after run s t (Refused line why) some h = λ limit config origin given p at read short left end.
      let stops = h read.part read.kept origin p at in
      let trace = (trace_of-end limit room config given read.part p read.read short).0 ∙ ap (read_lines room p) (one_line read.part (some_part run read.part read.kept some)) ∙ read_lines-stop room p read.part [] (IsRefused why) stops.0 in
      at_end (λ rest. EndsByFate (stands t) limit room config (given ++ rest) origin after 3 × IsRefusedAt limit room config (given ++ rest) line why) left end
      (subst (λ l. EndsByFate (stands t) limit room config l origin after 3 × IsRefusedAt limit room config l line why) (sym (append-nil given)) (
        EndsByFate-stopped (stands t) limit room config given origin after p (IsRefused why) 3 trace refl stops.2,
        IsRefusedAt-stopped limit room config given p line why trace stops.1,
      ))
  EndsAtEnd-halts room taken after run s t Full some h = λ limit config origin given p at read short left end.
      let stops = h read.part read.kept origin p at in
      at_end (λ rest. EndsByFate (stands t) limit room config (given ++ rest) origin after 6) left end (subst (λ l. EndsByFate (stands t) limit room config l origin after 6) (sym (append-nil given))
      (EndsByFate-stopped (stands t) limit room config given origin after p IsFull 6
      ((trace_of-end limit room config given read.part p read.read short).0 ∙ ap (read_lines room p) (one_line read.part (some_part run read.part read.kept some)) ∙ read_lines-stop room p read.part [] IsFull stops.0)
      refl stops.1))
  EndsAtEnd-halts room taken after run s t WriteFault some h = λ limit config origin given p at read short left end.
      let half = h read.part read.kept origin p at in
      record {
        p = p;
        place = inr (end, inl (record { before = given; line = read.part; q = half.0; split = sym (append-nil given); read = read.read; next = half.1; phase = half.2 }));
        part = half.3;
        short = short;
      }
  EndsAtEnd-halts room taken after run s t NoMemory some h = λ limit config origin given p at read short left end. record {
    p = p;
    place = inl (record { before = given; last = []; split = sym (append-nil given); one = omega arith; lines = read.read.lines });
    output = h read.part read.kept origin p at;
    short = short;
  }
  EndsAtEnd-halts room taken after run s t Done some h = λ limit config origin given p at read short left end. absurd (h read.part read.kept)
  EndsAtEnd-halts room taken after run s t ReadFault some h = λ limit config origin given p at read short left end. absurd (h read.part read.kept)
  EndsAtEnd-halts room taken after run s t TooLong some h = λ limit config origin given p at read short left end. absurd (h read.part read.kept)

  -- ---- all octets

  IsAt-start : (origin : Option (List ℕ)) (run : Run) (s : R) → IsStart run → IsAt stands gave origin origin run s (start empty)
  IsAt-start origin run s is = record {
    config = is.config;
    given = is.given;
    begun = is.begun;
    lines = is.lines;
    controls = is.controls;
    records = ap entered_all is.records;
    text = [];
    unbegun = λ e. record { done = refl; current = refl; nothing = refl };
    ran = λ e. absurd (other_way (sym e));
    for_phases = refl;
    written = Appends-none origin;
  }

  -- at first
  pub HasReached-none : (room : ℕ) (before origin : Option (List ℕ)) (run : Run) (s : R) → IsStart run → HasReached stands gave room empty before before origin origin 0 run s
  HasReached-none room before origin run s is = record {
    given = [];
    p = start empty;
    consumed = Consumes-none before;
    counted = refl;
    at = IsAt-start origin run s is;
    read = record { part = []; kept = subst (λ l. ReadAlike l []) (sym (ap (λ l. l.text) is.line)) ReadAlike-none; read = HasRead-none room empty };
  }

  -- after another piece
  pub HasReached-more : (room : ℕ) (config : Config) (before left rest origin taken after : Option (List ℕ)) (count : ℕ) (piece : List ℕ) (old new : Run) (s t : R)
      → HasReached stands gave room config before left origin taken count old s → Consumes left rest piece → TakesPiece stands gave room piece taken after old new s t
      → HasReached stands gave room config before rest origin after (count + length piece) new t
  HasReached-more room config before left rest origin taken after count piece old new s t r one takes =
      let step = takes config origin r.given r.p r.at r.read in record {
        given = r.given ++ piece;
        p = step.0;
        consumed = Consumes-trans before left rest r.given piece r.consumed one;
        counted = length-append r.given piece ∙ ap (λ n. n + length piece) r.counted;
        at = step.1;
        read = step.2;
      }

  pub RunEnds-end : (limit room : ℕ) (config : Config) (before left rest origin taken after : Option (List ℕ)) (count : ℕ) (run : Run) (s t : R) (ending : Ending)
      → HasReached stands gave room config before left origin taken count run s → count ≤ limit → Keeps left rest → IsAtEnd rest → EndsAtEnd stands gave room taken after run s t ending
      → RunEnds (gave t) (stands t) limit room config before rest origin after ending
  RunEnds-end limit room config before left rest origin taken after count run s t ending r short kept end ends =
      (r.given, Consumes-kept before left rest r.given r.consumed kept, ends limit config origin r.given r.p r.at r.read (omega (arith, r.counted)) rest end)

  pub RunEnds-piece : (limit room : ℕ) (config : Config) (before left rest origin taken after : Option (List ℕ)) (count : ℕ) (piece : List ℕ) (run : Run) (s t : R) (ending : Ending)
      → HasReached stands gave room config before left origin taken count run s → count + length piece ≤ limit → Consumes left rest piece → StopsAtPiece stands gave room piece taken after run s t ending
      → RunEnds (gave t) (stands t) limit room config before rest origin after ending
  RunEnds-piece limit room config before left rest origin taken after count piece run s t ending r short one stops =
      (r.given ++ piece, Consumes-trans before left rest r.given piece r.consumed one, stops limit config origin r.given r.p r.at r.read (omega (arith, r.counted, short)) rest)

  pub RunEnds-long : (limit room : ℕ) (config : Config) (before left rest origin taken : Option (List ℕ)) (count : ℕ) (piece : List ℕ) (run : Run) (s : R)
      → HasReached stands gave room config before left origin taken count run s → count ≡ limit → 0 < length piece → Consumes left rest piece
      → RunEnds (gave s) (stands s) limit room config before rest origin taken TooLong
  RunEnds-long limit room config before left rest origin taken count piece run s r full some one = (
    r.given ++ piece,
    Consumes-trans before left rest r.given piece r.consumed one,
    each rest (λ more.
        let long = trace_of-long limit room config r.given (piece ++ more) r.read.part r.p r.read.read (r.counted ∙ full) (omega (arith, some, length-append piece more)) in
        subst (λ text. EndsByFate (stands s) limit room config text origin taken 8) (sym (append_assoc r.given piece more))
        (EndsByFate-going (stands s) limit room config (r.given ++ (piece ++ more)) origin taken r.p false 8 long.0 long.1 refl (ran_of stands gave origin taken run s r.p r.at))),
  )

  pub RunEnds-fault : (limit room : ℕ) (config : Config) (before left rest origin taken : Option (List ℕ)) (count : ℕ) (run : Run) (s : R)
      → HasReached stands gave room config before left origin taken count run s → Keeps left rest → RunEnds (gave s) (stands s) limit room config before rest origin taken ReadFault
  RunEnds-fault limit room config before left rest origin taken count run s r kept = (
    r.given,
    Consumes-kept before left rest r.given r.consumed kept,
    subst (λ reading. TakesEnded (stands s) origin taken (progress_of reading)) (sym r.read.read.lines) (ran_of stands gave origin taken run s r.p r.at),
  )

-- before the first octet
pub RunEnds-none : (gave ran : Phased) (limit room : ℕ) (config : Config) (before origin : Option (List ℕ)) → RunEnds gave ran limit room config before before origin origin NoMemory
RunEnds-none gave ran limit room config before origin = (
  [],
  Consumes-none before,
  record {
    p = start config;
    place = inl (record { before = []; last = []; split = refl; one = omega arith; lines = refl });
    output = record { text = []; for_phases = refl; taken = Appends-none origin };
    short = omega arith;
  },
)
