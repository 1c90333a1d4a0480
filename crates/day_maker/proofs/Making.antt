-- What one thing that is done adds, and what some things do one after another.
use Rattle.std.proofs.Common.{◌≡◌, ℕ, zero, suc, add-one, ◌+◌, ◌-◌, ◌≤◌, List, [], ◌∷◌, ◌++◌, length, refl, sym, ap, ◌∙◌, subst, arith, append_assoc, append-nil, length-append}
use Rattle.std.specs.Prelude.{Option, Some, None, Result, Ok, Err, OnOk, get_or}
use Rattle.std.specs.List.{flat_map, range_with_len}
use Rattle.std.proofs.lemmas.Grind.{flat_map-append}
use Rattle.switch_event.specs.Event.{Happening}
use Rattle.switch_event.specs.Sent.{Sent}
use Rattle.switch_defs.specs.Switch.{State}
use Rattle.switch_defs.specs.Turn.{turn}
use Rattle.switch_defs.proofs.Settings.{config_turn}
use Rattle.trace_defs.specs.Line.{Record}
use Rattle.event_record.specs.declared.trace_record.TraceRecord.{TraceRecord}
use Rattle.trace_defs.specs.Entered.{entered_all}
use Rattle.day_defs.specs.Day.{Act, Day, record_of, after_that, after_acts, with_record, recorded}
use Rattle.day_defs.proofs.Going.{after_acts-append, recorded-append}
use Rattle.day_maker.specs.declared.maker.DayMaker.{DayMaker}
use Rattle.day_maker.specs.Hearing.{Hears, blank, note_of}
use Rattle.day_maker.specs.Making.{Stands, Adds, Turned, TurnsFew, Makes}

pub on_both : {T E P Q R : Type 0} (r : Result T E) → OnOk r P → OnOk r Q → (P → Q → R) → OnOk r R
on_both (Ok x) p q f = f p q
on_both (Err e) p q f = tt

pub on_ok : {T E P Q : Type 0} (r : Result T E) → OnOk r P → (P → Q) → OnOk r Q
on_ok (Ok x) p f = f p
on_ok (Err e) p f = tt

module _ {A : Type 0} (stands : A → State → Type 0) (made : A → ℕ) where
  -- the note of a host
  pub noted-for : (m : DayMaker A) (d : Day) (h : ℕ) → Stands stands m d → 1 ≤ h → h ≤ length m.notes.items
      → get_or m.notes.items (h - 1) blank ≡ note_of d.sent h
  noted-for m d h s least most =
      let whose : h - 1 + 1 ≡ h = omega arith in
      s.heard (h - 1) (omega arith) ∙ ap (note_of d.sent) whose

  -- a turn was made, and what it sent was heard
  pub turned-heard : (old mid new : DayMaker A) (d : Day) (e : Happening) → Stands stands old d → Turned stands old mid d e
      → new.core ≡ mid.core → new.tray ≡ mid.tray → new.hosts ≡ mid.hosts → length new.notes.items ≡ length mid.notes.items
      → ((sent : List Sent) → Hears mid.notes.items sent → Hears new.notes.items (sent ++ mid.tray.items))
      → Stands stands new (record { state = (turn d.state e).state; sent = d.sent ++ (turn d.state e).sent })
  turned-heard old mid new d e s t core tray hosts count hears = record {
    core_stands = subst (λ (a : A). stands a (turn d.state e).state) (sym core) t.core_stands;
    config = config_turn d.state e ∙ s.config;
    room = omega (arith, s.room, t.sessions, ap (λ x. x.sessions) tray);
    notes_are = count ∙ ap (λ x. length x.items) t.notes ∙ s.notes_are ∙ sym (hosts ∙ t.hosts);
    heard =
        let before : Hears mid.notes.items d.sent = subst (λ x. Hears x.items d.sent) (sym t.notes) s.heard in
        subst (λ (sent : List Sent). Hears new.notes.items (d.sent ++ sent)) t.sent (hears d.sent before);
  }

  -- ---- one thing

  pub makes-one : (old new : DayMaker A) (a : Act) (r : Record) (was after : List TraceRecord) → Adds stands old new r was after
      → ((d : Day) → Stands stands old d → record_of d.sent a ≡ Some r) → TurnsFew made old new 1 → Makes stands made old new (a ∷ []) was after
  makes-one old new a r was after adds is few = record {
    hosts = adds.0;
    goes = λ d s. subst (λ (o : Option Record). Stands stands new (after_that d o)) (sym (is d s)) (adds.1 d s).0;
    records = λ d s. (adds.1 d s).1 ∙ ap (λ (o : Option Record). entered_all was ++ with_record o []) (sym (is d s));
    turns = few;
  }

  pub makes-nothing : (m : DayMaker A) (a : Act) (was : List TraceRecord) → ((d : Day) → Stands stands m d → record_of d.sent a ≡ None)
      → Makes stands made m m (a ∷ []) was was
  makes-nothing m a was is = record {
    hosts = refl;
    goes = λ d s. subst (λ (o : Option Record). Stands stands m (after_that d o)) (sym (is d s)) s;
    records = λ d s. sym (ap (λ (o : Option Record). entered_all was ++ with_record o []) (is d s) ∙ append-nil (entered_all was));
    turns = omega arith;
  }

  -- ---- one after another

  pub makes-none : (m : DayMaker A) (was : List TraceRecord) → Makes stands made m m [] was was
  makes-none m was = record { hosts = refl; goes = λ d s. s; records = λ d s. sym (append-nil (entered_all was)); turns = omega arith }

  pub makes-then : (old mid new : DayMaker A) (first next : List Act) (was then_ after : List TraceRecord) → Makes stands made old mid first was then_
      → Makes stands made mid new next then_ after → Makes stands made old new (first ++ next) was after
  makes-then old mid new first next was then_ after f n = record {
    hosts = n.hosts ∙ f.hosts;
    goes = λ d s. subst (Stands stands new) (sym (after_acts-append d first next)) (n.goes (after_acts d first) (f.goes d s));
    records = λ d s.
        n.records (after_acts d first) (f.goes d s)
        ∙ ap (λ (rs : List Record). rs ++ recorded (after_acts d first) next) (f.records d s)
        ∙ append_assoc (entered_all was) (recorded d first) (recorded (after_acts d first) next)
        ∙ ap (λ (rs : List Record). entered_all was ++ rs) (sym (recorded-append d first next));
    turns = omega (arith, f.turns, n.turns, length-append first next);
  }

  -- what was done so far, and one thing more
  pub makes-next : (old mid new : DayMaker A) (all first next : List Act) (was then_ after : List TraceRecord) → all ≡ first ++ next
      → Makes stands made old mid first was then_ → Makes stands made mid new next then_ after → Makes stands made old new all was after
  makes-next old mid new all first next was then_ after is f n =
      subst (λ (acts : List Act). Makes stands made old new acts was after) (sym is) (makes-then old mid new first next was then_ after f n)

-- ---- ranges that grow

range-more : (first n : ℕ) → range_with_len first (suc n) ≡ range_with_len first n ++ (first + n) ∷ []
range-more first zero = ap (λ (k : ℕ). k ∷ []) (omega arith)
range-more first (suc n) =
    let last : first + 1 + n ≡ first + suc n = omega arith in
    ap (λ (rest : List ℕ). first ∷ rest) (range-more (first + 1) n) ∙ ap (λ (k : ℕ). first ∷ range_with_len (first + 1) n ++ k ∷ []) last

pub each-more : (f : ℕ → List Act) (first n k : ℕ) → first + n ≡ k → flat_map f (range_with_len first (n + 1)) ≡ flat_map f (range_with_len first n) ++ f k
each-more f first n k is =
    rw (add-one n)
    (ap (flat_map f) (range-more first n)
    ∙ flat_map-append f (range_with_len first n) ((first + n) ∷ [])
    ∙ ap (λ (acts : List Act). flat_map f (range_with_len first n) ++ acts) (append-nil (f (first + n)))
    ∙ ap (λ (j : ℕ). flat_map f (range_with_len first n) ++ f j) is)
