-- One phase more, of a day that runs.
use Rattle.std.proofs.Common.{◌≡◌, ℕ, zero, suc, ◌+◌, ◌*◌, ◌<◌, ◌≤◌, ◌^◌, List, [], ◌∷◌, ◌++◌, length, refl, sym, ap, ◌∙◌, subst, arith, length-append, append_assoc, add-one}
use Rattle.std.specs.List.{AllByRecursion, flat_map, range_with_len}
use Rattle.switch_event.specs.Config.{Config}
use Rattle.event_record.specs.declared.TheConstants.{MOST_EVENTS}
use Rattle.switch_defs.specs.Switch.{State}
use Rattle.switch_defs.specs.Laws.{most_turns}
use Rattle.trace_defs.specs.Line.{Record}
use Rattle.trace_defs.specs.Line.Record.{Control, Data}
use Rattle.event_record.specs.declared.trace_record.TraceRecord.{TraceRecord}
use Rattle.trace_defs.specs.Entered.{entered_all}
use Rattle.history_defs.specs.Output.{controls_in, records_of}
use Rattle.history_defs.proofs.OutputLemmas.{flat_more}
use Rattle.history_defs.proofs.PlaceLemmas.{controls_in-append}
use Rattle.race_run.specs.Runs.{MayCome, MayRun}
use Rattle.day_defs.specs.declared.Phase.{Phase}
use Rattle.day_defs.specs.declared.Phase.TheVariants.{Arrival, Hour, Renewal}
use Rattle.day_defs.specs.declared.TheConstants.{MOST_HOSTS}
use Rattle.day_defs.specs.Office.{settings}
use Rattle.day_defs.specs.Day.{Day, dawn, acts_of, after_acts, recorded, recorded_phases}
use Rattle.day_defs.proofs.Going.{length-acts, recorded-few}
use Rattle.day_maker.proofs.Coming.{Comes, records-come, phase-acts}
use Rattle.race_lanes.specs.Raced.{RacedBy}
use Rattle.day_maker.specs.declared.maker.DayMaker.{DayMaker}
use Rattle.day_maker.specs.Making as making
use Rattle.day_load.specs.declared.TheConstants.{LANES, WORKERS}
use Rattle.day_load.specs.Summary.{frames_in}
use Rattle.day_load.specs.Running.{Stands, after_phases, spent}
use Rattle.day_load.specs.declared.day_run.DayRun.{DayRun}

-- ---- one phase more

pub recorded-more : (n : ℕ) (d : Day) (done : List Phase) (which : Phase)
    → recorded_phases n d (done ++ which ∷ []) ≡ recorded_phases n d done ++ recorded (after_phases n d done) (acts_of n which) ∷ []
recorded-more n d [] which = refl
recorded-more n d (first ∷ done) which =
    ap (λ (ps : List (List Record)). recorded d (acts_of n first) ∷ ps) (recorded-more n (after_acts d (acts_of n first)) done which)

pub after-more : (n : ℕ) (d : Day) (done : List Phase) (which : Phase)
    → after_phases n d (done ++ which ∷ []) ≡ after_acts (after_phases n d done) (acts_of n which)
after-more n d [] which = refl
after-more n d (first ∷ done) which = after-more n (after_acts d (acts_of n first)) done which

pub spent-more : (n : ℕ) (done : List Phase) (which : Phase) → spent n (done ++ which ∷ []) ≡ spent n done + length (acts_of n which)
spent-more n [] which = omega arith
spent-more n (first ∷ done) which = let rest = spent-more n done which in omega arith

pub spent-few : (n : ℕ) (done : List Phase) → n ≤ MOST_HOSTS → spent n done ≤ 6000 * length done
spent-few n [] few = omega arith
spent-few n (which ∷ done) few = let rest = spent-few n done few in let one = length-acts n which few in omega arith

-- ---- records are few

records_few : (n : ℕ) (d : Day) (done : List Phase) → length (records_of (recorded_phases n d done)) ≤ spent n done
records_few n d [] = omega arith
records_few n d (which ∷ done) =
    let rest = records_few n (after_acts d (acts_of n which)) done in
    let one = recorded-few d (acts_of n which) in
    let both = length-append (recorded d (acts_of n which)) (records_of (recorded_phases n (after_acts d (acts_of n which)) done)) in
    omega arith

controls-few : (rs : List Record) → controls_in rs ≤ length rs
controls-few [] = omega arith
controls-few (Control lane event ∷ rs) = let rest = controls-few rs in omega arith
controls-few (Data port octets ∷ rs) = let rest = controls-few rs in omega arith

frames_few : (rs : List Record) → frames_in rs ≤ length rs
frames_few [] = omega arith
frames_few (Control lane event ∷ rs) = let rest = frames_few rs in omega arith
frames_few (Data port octets ∷ rs) = let rest = frames_few rs in omega arith

pub frames_in-append : (first next : List Record) → frames_in (first ++ next) ≡ frames_in first + frames_in next
frames_in-append [] next = omega arith
frames_in-append (Control lane event ∷ rs) next = frames_in-append rs next
frames_in-append (Data port octets ∷ rs) next = let rest = frames_in-append rs next in omega arith

come : (rs : List Record) → AllByRecursion Comes rs → AllByRecursion (MayCome settings) rs
come [] are = tt
come (Control lane event ∷ rs) are = (are.0, come rs are.1)
come (Data port octets ∷ rs) are = (tt, come rs are.1)

-- ---- what may be run as the next phase

module _ (hosts : ℕ) (done : List Phase) (which : Phase) (few : hosts ≤ MOST_HOSTS) (fits : spent hosts (done ++ which ∷ []) ≤ MOST_EVENTS) where
  pub may-run : MayRun settings (recorded_phases hosts dawn done) (recorded (after_phases hosts dawn done) (acts_of hosts which))
  may-run =
      let before = records_few hosts dawn done in
      let more = recorded-few (after_phases hosts dawn done) (acts_of hosts which) in
      let all = spent-more hosts done which in
      record {
        few = omega arith;
        controls = (
            let a = controls-few (records_of (recorded_phases hosts dawn done)) in
            let b = controls-few (recorded (after_phases hosts dawn done) (acts_of hosts which)) in
            omega arith);
        events = come _ (records-come (after_phases hosts dawn done) (acts_of hosts which) (phase-acts hosts which (omega arith)));
      }

pub frames-before : (hosts : ℕ) (done : List Phase) → frames_in (records_of (recorded_phases hosts dawn done)) ≤ spent hosts done
frames-before hosts done =
    let a = frames_few (records_of (recorded_phases hosts dawn done)) in let b = records_few hosts dawn done in omega arith

pub controls-before : (hosts : ℕ) (done : List Phase) → controls_in (records_of (recorded_phases hosts dawn done)) ≤ spent hosts done
controls-before hosts done =
    let a = controls-few (records_of (recorded_phases hosts dawn done)) in let b = records_few hosts dawn done in omega arith

-- the counts, with one phase more
pub controls-more : (hosts : ℕ) (done : List Phase) (which : Phase) → controls_in (records_of (recorded_phases hosts dawn (done ++ which ∷ [])))
    ≡ controls_in (records_of (recorded_phases hosts dawn done)) + controls_in (recorded (after_phases hosts dawn done) (acts_of hosts which))
controls-more hosts done which =
    ap (λ (ps : List (List Record)). controls_in (records_of ps)) (recorded-more hosts dawn done which)
    ∙ ap controls_in (flat_more (recorded_phases hosts dawn done) (recorded (after_phases hosts dawn done) (acts_of hosts which)))
    ∙ controls_in-append (records_of (recorded_phases hosts dawn done)) (recorded (after_phases hosts dawn done) (acts_of hosts which))

pub frames-more : (hosts : ℕ) (done : List Phase) (which : Phase) → frames_in (records_of (recorded_phases hosts dawn (done ++ which ∷ [])))
    ≡ frames_in (records_of (recorded_phases hosts dawn done)) + frames_in (recorded (after_phases hosts dawn done) (acts_of hosts which))
frames-more hosts done which =
    ap (λ (ps : List (List Record)). frames_in (records_of ps)) (recorded-more hosts dawn done which)
    ∙ ap frames_in (flat_more (recorded_phases hosts dawn done) (recorded (after_phases hosts dawn done) (acts_of hosts which)))
    ∙ frames_in-append (records_of (recorded_phases hosts dawn done)) (recorded (after_phases hosts dawn done) (acts_of hosts which))

-- ---- the hours

-- the phases of so many hours
abbrev pub hours : ℕ → List Phase
hours k = Arrival ∷ flat_map (λ (hour : ℕ). Hour ∷ Renewal ∷ []) (range_with_len 0 k)

length_hours : (first k : ℕ) → length (flat_map (λ (hour : ℕ). Hour ∷ Renewal ∷ []) (range_with_len first k)) ≡ 2 * k
length_hours first zero = omega arith
length_hours first (suc k) = let rest = length_hours (first + 1) k in omega arith

pub length-hours : (k : ℕ) → length (hours k) ≡ 1 + 2 * k
length-hours k = let rest = length_hours 0 k in omega arith

each_hour : (first k : ℕ) → flat_map (λ (hour : ℕ). Hour ∷ Renewal ∷ []) (range_with_len first (suc k))
    ≡ flat_map (λ (hour : ℕ). Hour ∷ Renewal ∷ []) (range_with_len first k) ++ Hour ∷ Renewal ∷ []
each_hour first zero = refl
each_hour first (suc k) = ap (λ (ps : List Phase). Hour ∷ Renewal ∷ ps) (each_hour (first + 1) k)

pub hours-more : (k : ℕ) → hours (k + 1) ≡ (hours k ++ Hour ∷ []) ++ Renewal ∷ []
hours-more k =
    ap hours (add-one k)
    ∙ ap (λ (ps : List Phase). Arrival ∷ ps) (each_hour 0 k)
    ∙ sym (append_assoc (hours k) (Hour ∷ []) (Renewal ∷ []))

-- ---- a phase was made, and was run

module _ {A : Type 0} (stands : A → State → Type 0) (made : A → ℕ) (r : DayRun A) (hosts : ℕ) (done : List Phase) (s : Stands stands made r hosts done)
    (which : Phase) (mid : DayMaker A) (was records : List TraceRecord) (none : was ≡ [])
    (m : making.Makes stands made r.maker mid (acts_of r.maker.hosts which) was records) where
  pub entered-are : entered_all records ≡ recorded (after_phases hosts dawn done) (acts_of hosts which)
  entered-are =
      m.records (after_phases hosts dawn done) s.maker_stands
      ∙ ap (λ (w : List TraceRecord). entered_all w ++ recorded (after_phases hosts dawn done) (acts_of r.maker.hosts which)) none
      ∙ ap (λ (n : ℕ). recorded (after_phases hosts dawn done) (acts_of n which)) s.hosts_are

  pub may : hosts ≤ MOST_HOSTS → spent hosts (done ++ which ∷ []) ≤ MOST_EVENTS → MayRun settings (recorded_phases hosts dawn done) (entered_all records)
  may few fits = subst (MayRun settings (recorded_phases hosts dawn done)) (sym entered-are) (may-run hosts done which few fits)

  pub stands-more : (new : DayRun A) (more : List ℕ) → new.maker ≡ mid
      → RacedBy LANES WORKERS new.race settings (recorded_phases hosts dawn done ++ entered_all records ∷ []) (s.text ++ more)
      → new.controls ≡ r.controls + controls_in (entered_all records) → new.frames ≡ r.frames + frames_in (entered_all records)
      → Stands stands made new hosts (done ++ which ∷ [])
  stands-more new more maker raced controls frames = record {
    hosts_are = ap (λ (x : DayMaker A). x.hosts) maker ∙ m.hosts ∙ s.hosts_are;
    maker_stands =
        let acts : acts_of r.maker.hosts which ≡ acts_of hosts which = ap (λ (n : ℕ). acts_of n which) s.hosts_are in
        let day : after_acts (after_phases hosts dawn done) (acts_of r.maker.hosts which) ≡ after_phases hosts dawn (done ++ which ∷ []) =
        ap (after_acts (after_phases hosts dawn done)) acts ∙ sym (after-more hosts dawn done which) in
        subst (λ (x : DayMaker A). making.Stands stands x (after_phases hosts dawn (done ++ which ∷ []))) (sym maker)
        (subst (making.Stands stands mid) day (m.goes (after_phases hosts dawn done) s.maker_stands));
    turns = (
        let acts : length (acts_of r.maker.hosts which) ≡ length (acts_of hosts which) = ap (λ (n : ℕ). length (acts_of n which)) s.hosts_are in
        let same : made new.maker.core ≡ made mid.core = ap (λ (x : DayMaker A). made x.core) maker in
        let all = spent-more hosts done which in
        omega (arith, m.turns, s.turns));
    text = s.text ++ more;
    raced =
        let phases : recorded_phases hosts dawn done ++ entered_all records ∷ [] ≡ recorded_phases hosts dawn (done ++ which ∷ []) =
        ap (λ (rs : List Record). recorded_phases hosts dawn done ++ rs ∷ []) entered-are ∙ sym (recorded-more hosts dawn done which) in
        subst (λ (ps : List (List Record)). RacedBy LANES WORKERS new.race settings ps (s.text ++ more)) phases raced;
    controls =
        controls ∙ ap (λ (n : ℕ). n + controls_in (entered_all records)) s.controls
        ∙ ap (λ (rs : List Record). controls_in (records_of (recorded_phases hosts dawn done)) + controls_in rs) entered-are ∙ sym (controls-more hosts done which);
    frames =
        frames ∙ ap (λ (n : ℕ). n + frames_in (entered_all records)) s.frames
        ∙ ap (λ (rs : List Record). frames_in (records_of (recorded_phases hosts dawn done)) + frames_in rs) entered-are ∙ sym (frames-more hosts done which);
  }
