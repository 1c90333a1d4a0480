-- Records that are run one after another.
use Rattle.std.proofs.Common.{◌≡◌, ℕ, ◌+◌, ◌≤◌, true, List, [], ◌∷◌, ◌++◌, map, Result, Ok, Err, OnErr, refl, sym, ap, ◌∙◌, subst, append_assoc, append-nil}
use Rattle.std.proofs.lemmas.List.{map-append}
use Rattle.switch_event.specs.Config.{Config, is_valid}
use Rattle.switch_event.specs.Event.{Happening}
use Rattle.switch_event.specs.declared.event.Outcome.{Outcome}
use Rattle.switch_defs.specs.Switch.{State, opening, most_sessions}
use Rattle.switch_defs.specs.Turn.{turn}
use Rattle.switch_defs.specs.Decide.{decide}
use Rattle.switch_event.specs.declared.decision.Decision.{Decision}
use Rattle.table_defs.specs.Table.{Table, Mirrors, Tells, decide_table, opening_table, all_absorbed}
use Rattle.table_defs.proofs.Mirror.{enough, kept}
use Rattle.table_defs.proofs.Telling.{begun}
use Rattle.table_defs.specs.Change.{item_of}
use Rattle.table_defs.specs.declared.change.Item.{Item}
use Rattle.trace_defs.specs.Line.{Record}
use Rattle.trace_defs.specs.Line.Record.{Control}
use Rattle.trace_defs.specs.Output.{control_block}
use Rattle.history_defs.specs.Output.{Place, block, blocks, first_place, next_place, place_after}
use Rattle.history_defs.proofs.OutputLemmas.{blocks-append, place_after-append}
use Rattle.event_record.specs.declared.trace_record.TraceRecord.{TraceRecord}
use Rattle.trace_defs.specs.Entered.{entered, entered_all}
use Rattle.sequential.specs.declared.sequential.Sequential.{Sequential}
use Rattle.sequential.specs.Records.{Stands, Turned, Prints, PrintsAll, MayRunOne, MayRunAt}

pub on_err : {T E P : Type 0} (r : Result T E) → P → OnErr r P
on_err (Ok x) h = tt
on_err (Err e) h = h

-- of records that may be run, each at its place
pub may_next : (at : Place) (xs : List Record) (r : Record) (ys : List Record) → MayRunAt at (xs ++ r ∷ ys) → MayRunOne (place_after at xs) r
may_next at [] r ys h = h.0
may_next at (x ∷ xs) r ys h = may_next (next_place at x) xs r ys h.1

-- ---- what a turn does to the table

pub turned_in_step : (t new : Table) (s : State) (e : Happening) (is : List Item) → Mirrors t s → Tells s (map item_of is) (turn s e).state → new ≡ all_absorbed t (map item_of is)
    → Mirrors new (turn s e).state
turned_in_step t new s e is m tells same = subst (λ u. Mirrors u (turn s e).state) (sym same) (kept t s (turn s e).state (map item_of is) m tells).1

pub decides_so : (t : Table) (s : State) (port : ℕ) (octets : List ℕ) (d : Decision) → Mirrors t s → d ≡ decide_table t port octets → d ≡ decide s port octets
decides_so t s port octets d m e = e ∙ enough t s m port octets

module _ {A : Type 0} (stands : A → State → Type 0) (made : A → ℕ) where
  pub PrintsAll-none : (s : Sequential A) (text : List ℕ) → PrintsAll stands made s s [] text text
  PrintsAll-none s text = λ at is. (sym (append-nil text), is)

  pub PrintsAll-more : (old mid new : Sequential A) (records more : List TraceRecord) (r : TraceRecord) (text between after : List ℕ)
      → PrintsAll stands made old mid records text between → Prints stands made mid new (entered r) between after → more ≡ records ++ r ∷ [] → PrintsAll stands made old new more text after
  PrintsAll-more old mid new records more r text between after ran one e = λ at is.
      let done = entered_all records in
      let place = place_after at done in
      let before = ran at is in
      let last = one place before.1 in
      let all : entered_all more ≡ done ++ entered r ∷ [] = ap entered_all e ∙ map-append entered records (r ∷ []) in
      let joined : blocks at done ++ block place (entered r) ≡ blocks at (entered_all more) =
      ap (λ l. blocks at done ++ l) (sym (append-nil (block place (entered r)))) ∙ sym (blocks-append at done (entered r ∷ [])) ∙ ap (blocks at) (sym all) in (
        last.0 ∙ ap (λ l. l ++ block place (entered r)) before.0 ∙ append_assoc text (blocks at done) (block place (entered r)) ∙ ap (λ l. text ++ l) joined,
        subst (Stands stands made new) (sym (place_after-append at done (entered r ∷ [])) ∙ ap (place_after at) (sym all)) last.1,
      )

  pub PrintsAll-whole : (old new : Sequential A) (some all : List TraceRecord) (text after : List ℕ) → PrintsAll stands made old new some text after → some ≡ all → PrintsAll stands made old new all text after
  PrintsAll-whole old new some all text after ran e = subst (λ l. PrintsAll stands made old new l text after) e ran

  -- a record in the middle may be run where those before it were
  pub may_one : (old mid : Sequential A) (done all : List TraceRecord) (r : TraceRecord) (rest : List TraceRecord) (text between : List ℕ) (at : Place) → Stands stands made old at → MayRunAt at (entered_all all)
      → PrintsAll stands made old mid done text between → all ≡ done ++ r ∷ rest
      → (place : Place) × Stands stands made mid place × MayRunOne place (entered r)
  may_one old mid done all r rest text between at is may ran split = (
    place_after at (entered_all done),
    (ran at is).1,
    may_next at (entered_all done) (entered r) (entered_all rest) (subst (MayRunAt at) (ap entered_all split ∙ map-append entered done (r ∷ rest)) may),
  )

  -- the opening
  pub Stands-none : (s : Sequential A) (config : Config) → is_valid config ≡ true → stands s.core (opening config) → made s.core ≡ 0 → s.table ≡ opening_table config → most_sessions ≤ s.tray.sessions
      → s.number ≡ 1 → s.serial ≡ 0 → Stands stands made s (first_place config)
  Stands-none s config valid opened turns table room number serial = record {
    core_stands = opened;
    turns = turns;
    in_step = subst (λ t. Mirrors t (opening config)) (sym table) (begun config valid);
    room = room;
    number = number;
    serial = serial;
  }

  -- the authenticator made a turn, and the table was changed
  pub Turned-once : (old new : Sequential A) (e event : Happening) (outcome : Outcome) (items : List Item) → e ≡ event
      → ((s : State) → stands old.core s → stands new.core (turn s e).state) → ((s : State) → stands old.core s → outcome ≡ (turn s e).outcome)
      → ((s : State) → stands old.core s → new.tray.items ≡ (turn s e).sent) → ((s : State) → stands old.core s → Tells s (map item_of items) (turn s e).state)
      → made new.core ≡ made old.core + 1 → new.table ≡ all_absorbed old.table (map item_of items) → new.tray.sessions ≡ old.tray.sessions
      → (at : Place) → Stands stands made old at → Turned stands made new event outcome at
  Turned-once old new e event outcome items same state became said tells turns table room at is = subst (λ f. Turned stands made new f outcome at) same (record {
    core_stands = state at.state is.core_stands;
    turns = turns ∙ ap (λ n. n + 1) is.turns;
    in_step = turned_in_step old.table new.table at.state e items is.in_step (tells at.state is.core_stands) table;
    room = subst (λ n. most_sessions ≤ n) (sym room) is.room;
    became = became at.state is.core_stands;
    sent = said at.state is.core_stands;
  })

  -- and its block was printed
  pub Prints-turned : (old mid new : Sequential A) (lane : ℕ) (event : Happening) (outcome : Outcome) (text after : List ℕ)
      → ((at : Place) → Stands stands made old at → Turned stands made mid event outcome at) → mid.number ≡ old.number → mid.serial ≡ old.serial
      → after ≡ text ++ control_block mid.number 1 mid.serial outcome mid.tray.items → new ≡ record mid { number = mid.number + 1; serial = mid.serial + 1 }
      → Prints stands made old new (Control lane event) text after
  Prints-turned old mid new lane event outcome text after turned number serial printed same = λ at is.
      let t = turned at is in
      let n : mid.number ≡ at.number = number ∙ is.number in
      let k : mid.serial ≡ at.serial = serial ∙ is.serial in (
        printed ∙ ap (λ n. text ++ control_block n 1 mid.serial outcome mid.tray.items) n ∙ ap (λ k. text ++ control_block at.number 1 k outcome mid.tray.items) k
            ∙ ap (λ o. text ++ control_block at.number 1 at.serial o mid.tray.items) t.became ∙ ap (λ l. text ++ control_block at.number 1 at.serial (turn at.state event).outcome l) t.sent,
        subst (λ s. Stands stands made s (next_place at (Control lane event))) (sym same) (record {
          core_stands = t.core_stands;
          turns = t.turns;
          in_step = t.in_step;
          room = t.room;
          number = ap (λ n. n + 1) n;
          serial = ap (λ n. n + 1) k;
        }),
      )
