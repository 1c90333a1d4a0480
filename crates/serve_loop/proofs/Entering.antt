-- What is run, logged and sent for one more record.
use Rattle.std.proofs.Common.{◌≡◌, ℕ, ◌+◌, ◌≤◌, ◌<◌, List, [], ◌∷◌, ◌++◌, Option, Result, Ok, Err, IfErr, sym, ap, ◌∙◌, subst, arith, length, length-append, take}
use Rattle.std.proofs.Math.Seq.{take-append-add}
use Rattle.std.specs.Io.KnownBytes.{Appends}
use Rattle.wire_defs.proofs.OutsideLemmas.{Appends-trans, Appends-same, Appends-kept}
use Rattle.std.specs.Prelude.{IsErr, IsErrAnd, ⊤}
use Rattle.switch_event.specs.Config.{Config, are_ports}
use Rattle.switch_event.specs.Event.{Happening}
use Rattle.switch_event.specs.Sent.{Sent}
use Rattle.switch_defs.specs.Switch.{State}
use Rattle.trace_defs.specs.Line.{Record}
use Rattle.trace_defs.specs.Line.Record.{Control}
use Rattle.trace_defs.specs.Text.{record_text}
use Rattle.trace_defs.specs.Records.{IsRecord}
use Rattle.trace_defs.specs.Records.{AreRecords}
use Rattle.history_defs.specs.Output.{Place, block, next_place}
use Rattle.history_defs.proofs.PlaceLemmas.{place_config}
use Rattle.outside_link.specs.Link.{Outgoing, Grows}
use Rattle.outside_link.proofs.LinkLemmas.{Grows-trans, Grows-same}
use Rattle.sequential.specs.declared.sequential.Sequential.{Sequential}
use Rattle.sequential.specs.Records.{Stands}
use Rattle.serve_defs.specs.Laws.{AreSettings, ReadsBack}
use Rattle.serve_defs.specs.Log.{log, logged, commented}
use Rattle.serve_defs.specs.Served.{Arrival, entries_of}
use Rattle.serve_defs.specs.Posted.{all_homes, homes_after, all_posted, posted_for, sent_at}
use Rattle.serve_defs.proofs.Appended.{entries_of-append, log-one, posted_for-one, place-one, homes-one}
use Rattle.serve_defs.proofs.LogBack.{log_back}
use Rattle.serve_loop.specs.declared.ending.Ending.{Ending}
use Rattle.serve_loop.specs.declared.ending.Ending.TheVariants.{Done, NoMemory, Refused, ReadFault, WriteFault, Full, LinkFault, TooLong}
use Rattle.serve_loop.specs.declared.server.Server.{Server}
use Rattle.serve_loop.specs.Homes.{AreHomes}
use Rattle.serve_loop.specs.Post.{SendsFirst}
use Rattle.serve_loop.specs.Run.{EnterHalts, IsAt, IsHalfPosted, IsLogged, IsSound, NotRun, TakesText, place_of}

-- what holds of the failure holds of the result
pub fails : {T : Type 0} (r : Result T Ending) (e : Ending) (P : Ending → Type 0) → IsErr r → IsErrAnd r (λ x. x ≡ e) → P e → IfErr r P
fails (Ok t) e P err is h = tt
fails (Err x) e P err is h = subst P (sym is) h

-- ---- records that lines can write

records_append : (c : Config) (rs : List Record) (r : Record) → AreRecords c rs → IsRecord c r → AreRecords c (rs ++ r ∷ [])
records_append c [] r hs h = (h, tt)
records_append c (x ∷ rs) r hs h = (hs.0, records_append c rs r hs.1 h)

records-one : (c : Config) (came : List Arrival) (a : Arrival) → AreRecords c (entries_of came) → IsRecord c a.entry → AreRecords c (entries_of (came ++ a ∷ []))
records-one c came a hs h = subst (AreRecords c) (sym (entries_of-append came (a ∷ []))) (records_append c (entries_of came) a.entry hs h)

-- ---- a record was logged, and what it sends was sent

written-one : (origin taken taken' : Option (List ℕ)) (c : Config) (came : List Arrival) (a : Arrival) (text : List ℕ)
    → Appends origin taken (log c (entries_of came)) → Appends taken taken' text → text ≡ logged (place_of c came) a.entry → Appends origin taken' (log c (entries_of (came ++ a ∷ [])))
written-one origin taken taken' c came a text written more is =
    Appends-same origin taken' _ _ (ap (λ l. log c (entries_of came) ++ l) is ∙ sym (log-one c came a)) (Appends-trans origin taken taken' _ _ written more)

posted-one : (first sent sent' : Option (List Outgoing)) (c d : Config) (came : List Arrival) (a : Arrival) (ts : List Sent)
    → Grows first sent (posted_for c came) → d ≡ c → ts ≡ sent_at (place_of c came) a.entry → Grows sent sent' (all_posted d (homes_after (all_homes [] came) a) ts)
    → Grows first sent' (posted_for c (came ++ a ∷ []))
posted-one first sent sent' c d came a ts posted same is more =
    let homes = homes_after (all_homes [] came) a in
    Grows-same first sent' _ _ (ap (λ l. posted_for c came ++ l) (ap (λ k. all_posted k homes ts) same ∙ ap (all_posted c homes) is) ∙ sym (posted_for-one c came a))
    (Grows-trans first sent sent' _ _ posted more)

posted-part : (first sent sent' : Option (List Outgoing)) (c d : Config) (came : List Arrival) (a : Arrival) (ts : List Sent)
    → Grows first sent (posted_for c came) → d ≡ c → ts ≡ sent_at (place_of c came) a.entry → SendsFirst sent sent' (all_posted d (homes_after (all_homes [] came) a) ts)
    → SendsFirst first sent' (posted_for c (came ++ a ∷ []))
posted-part first sent sent' c d came a ts posted same is part =
    let homes = homes_after (all_homes [] came) a in
    let before = posted_for c came in
    let here = all_posted d homes ts in
    let whole : posted_for c (came ++ a ∷ []) ≡ before ++ here = posted_for-one c came a ∙ ap (λ l. before ++ l) (sym (ap (λ k. all_posted k homes ts) same ∙ ap (all_posted c homes) is)) in (
      length before + part.0,
      omega (arith, ap length whole, length-append before here, part.1),
      Grows-same first sent' _ _ (sym (ap (take (length before + part.0)) whole ∙ take-append-add before here part.0)) (Grows-trans first sent sent' _ _ posted part.2),
    )

-- the log of a record is its line and its block
pub logged_is : (at : Place) (r : Record) (line lines text : List ℕ) → line ≡ record_text r → text ≡ block at r → lines ≡ line ++ commented text → lines ≡ logged at r
logged_is at r line lines text line_is block_is is = is ∙ ap (λ l. l ++ commented text) line_is ∙ ap (λ b. record_text r ++ commented b) block_is

module _ {A : Type 0} (stands : A → State → Type 0) (made : A → ℕ) where
  pub logged_of : (origin taken : Option (List ℕ)) (first sent : Option (List Outgoing)) (server : Server A) (came : List Arrival)
      → IsAt stands made origin taken first sent server came → IsLogged server.config origin taken first sent came
  logged_of origin taken first sent server came at = record {
    written = at.written;
    trace = log_back server.config (entries_of came) at.settings at.records;
    posted = at.posted;
  }

  trace-one : (origin taken : Option (List ℕ)) (first sent : Option (List Outgoing)) (server : Server A) (came : List Arrival) (a : Arrival)
      → IsAt stands made origin taken first sent server came → IsRecord server.config a.entry → ReadsBack server.config (entries_of (came ++ a ∷ []))
  trace-one origin taken first sent server came a at may = log_back server.config (entries_of (came ++ a ∷ [])) at.settings (records-one server.config came a at.records may)

  -- ---- running a record

  -- a control record was run
  pub ran_event : (old new : Sequential A) (happening event : Happening) (cleared text : List ℕ) (lane : ℕ) (r : Record)
      → ((lane : ℕ) (at : Place) → Stands stands made old at → (text ≡ cleared ++ block at (Control lane event)) × Stands stands made new (next_place at (Control lane event)))
      → cleared ≡ [] → event ≡ happening → r ≡ Control lane happening
      → (at : Place) → Stands stands made old at → (text ≡ block at r) × Stands stands made new (next_place at r)
  ran_event old new happening event cleared text lane r runs none is entry_is at s =
      let ran = runs lane at s in
      let same : Control lane event ≡ r = ap (Control lane) is ∙ sym entry_is in (
        ran.0 ∙ ap (λ l. l ++ block at (Control lane event)) none ∙ ap (block at) same,
        subst (λ x. Stands stands made new (next_place at x)) same ran.1,
      )

  pub sound_after : (room : ℕ) (old new : Server A) (r : Record) (s : IsSound stands made room old) → (next_place s.at r).serial ≤ room → new.config ≡ old.config
      → Stands stands made new.core (next_place s.at r) → IsSound stands made room new
  sound_after room old new r s few same standing = record {
    at = next_place s.at r;
    standing = standing;
    settings = place_config s.at (r ∷ []) ∙ s.settings ∙ sym same;
    few = few;
    ports = ap (λ c. are_ports c.ports) same ∙ s.ports;
  }

  pub same_sound : (room : ℕ) (old new : Server A) → new.core ≡ old.core → new.config ≡ old.config → IsSound stands made room old → IsSound stands made room new
  same_sound room old new core config s = record {
    at = s.at;
    standing = subst (λ k. Stands stands made k s.at) (sym core) s.standing;
    settings = s.settings ∙ sym config;
    few = s.few;
    ports = ap (λ c. are_ports c.ports) config ∙ s.ports;
  }

  -- ---- taking a record

  -- the record was not run
  pub not_run : (room : ℕ) (a : Arrival) (origin taken : Option (List ℕ)) (first sent : Option (List Outgoing)) (server : Server A) (came : List Arrival) (e : Ending)
      → IsSound stands made room server → NotRun stands made room server a.entry e → IsAt stands made origin taken first sent server came
      → EnterHalts room server.config a origin taken first sent came e
  not_run room a origin taken first sent server came Done sound not at = absurd not
  not_run room a origin taken first sent server came NoMemory sound not at = logged_of origin taken first sent server came at
  not_run room a origin taken first sent server came (Refused line why) sound not at = absurd not
  not_run room a origin taken first sent server came ReadFault sound not at = absurd not
  not_run room a origin taken first sent server came WriteFault sound not at = absurd not
  not_run room a origin taken first sent server came Full sound not at =
      ((not.0, omega (arith, not.1 (place_of server.config came) at.standing, sound.few, sound.standing.serial, at.standing.serial)), logged_of origin taken first sent server came at)
  not_run room a origin taken first sent server came LinkFault sound not at = absurd not
  not_run room a origin taken first sent server came TooLong sound not at = absurd not

  -- it was run, and not logged as a whole
  pub not_logged : (room : ℕ) (a : Arrival) (origin taken taken' : Option (List ℕ)) (first sent : Option (List Outgoing)) (server : Server A) (came : List Arrival) (text : List ℕ) (e : Ending)
      → IsAt stands made origin taken first sent server came → text ≡ logged (place_of server.config came) a.entry → TakesText {T = ⊤} taken taken' text (Err e)
      → EnterHalts room server.config a origin taken' first sent came e
  not_logged room a origin taken taken' first sent server came text Done at is t = absurd t
  not_logged room a origin taken taken' first sent server came text NoMemory at is t = record {
    written = Appends-kept origin taken taken' _ at.written t;
    trace = log_back server.config (entries_of came) at.settings at.records;
    posted = at.posted;
  }
  not_logged room a origin taken taken' first sent server came text (Refused line why) at is t = absurd t
  not_logged room a origin taken taken' first sent server came text ReadFault at is t = absurd t
  not_logged room a origin taken taken' first sent server came text WriteFault at is t = record {
    n = t.0;
    proper = subst (λ l. t.0 < length l) is t.1;
    written = Appends-same origin taken' _ _ (ap (λ l. log server.config (entries_of came) ++ take t.0 l) is) (Appends-trans origin taken taken' _ _ at.written t.2);
    trace = log_back server.config (entries_of came) at.settings at.records;
    posted = at.posted;
  }
  not_logged room a origin taken taken' first sent server came text Full at is t = absurd t
  not_logged room a origin taken taken' first sent server came text LinkFault at is t = absurd t
  not_logged room a origin taken taken' first sent server came text TooLong at is t = absurd t

  -- it was run and logged, and what it sends was not sent as a whole
  pub not_posted : (a : Arrival) (origin taken taken' : Option (List ℕ)) (first sent sent' : Option (List Outgoing)) (server : Server A) (d : Config) (came : List Arrival) (text : List ℕ) (ts : List Sent)
      → IsAt stands made origin taken first sent server came → IsRecord server.config a.entry → d ≡ server.config → Appends taken taken' text → text ≡ logged (place_of server.config came) a.entry
      → ts ≡ sent_at (place_of server.config came) a.entry → SendsFirst sent sent' (all_posted d (homes_after (all_homes [] came) a) ts)
      → IsHalfPosted server.config origin taken' first sent' (came ++ a ∷ [])
  not_posted a origin taken taken' first sent sent' server d came text ts at may same written is sends part = record {
    written = written-one origin taken taken' server.config came a text at.written written is;
    trace = trace-one origin taken first sent server came a at may;
    posted = posted-part first sent sent' server.config d came a ts at.posted same sends part;
  }

  -- all of it was done
  pub entered : (a : Arrival) (origin taken taken' : Option (List ℕ)) (first sent sent' : Option (List Outgoing)) (server new : Server A) (came : List Arrival) (text : List ℕ) (ts : List Sent)
      → IsAt stands made origin taken first sent server came → IsRecord server.config a.entry → new.config ≡ server.config
      → Stands stands made new.core (next_place (place_of server.config came) a.entry) → AreHomes new.homes.table (homes_after (all_homes [] came) a)
      → Appends taken taken' text → text ≡ logged (place_of server.config came) a.entry
      → ts ≡ sent_at (place_of server.config came) a.entry → Grows sent sent' (all_posted new.config (homes_after (all_homes [] came) a) ts)
      → IsAt stands made origin taken' first sent' new (came ++ a ∷ [])
  entered a origin taken taken' first sent sent' server new came text ts at may same standing homes written is sends posted =
      let c = server.config in
      let more = came ++ a ∷ [] in record {
        standing = subst (λ k. Stands stands made new.core (place_of k more)) (sym same) (subst (Stands stands made new.core) (sym (place-one c came a)) standing);
        homes = subst (AreHomes new.homes.table) (sym (homes-one came a)) homes;
        settings = subst AreSettings (sym same) at.settings;
        records = subst (λ k. AreRecords k (entries_of more)) (sym same) (records-one c came a at.records may);
        written = subst (λ k. Appends origin taken' (log k (entries_of more))) (sym same) (written-one origin taken taken' c came a text at.written written is);
        posted = subst (λ k. Grows first sent' (posted_for k more)) (sym same) (posted-one first sent sent' c new.config came a ts at.posted same sends posted);
      }
