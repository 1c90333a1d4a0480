-- The sessions of a state have their second one after another.
use Rattle.std.proofs.Common.{◌≡◌, ℕ, suc, ◌+◌, ◌-◌, ◌<◌, refl, sym, ap, subst, ◌∙◌, List, [], ◌++◌, length, Bool, true, false, Option, None, Some, append_assoc, arith}
use Rattle.std.proofs.lemmas.List.{append-nil}
use Rattle.out_tray.specs.Tray.{Things}
use Rattle.switch_event.specs.Sent.{Sent}
use Rattle.typed_session.specs.Follows.{with_sent}
use Rattle.switch_defs.specs.Switch.{Session, State}
use Rattle.switch_defs.specs.Decide.{Right, authorised}
use Rattle.switch_defs.specs.Turn.{each_second, second_of}
use Rattle.turn_defs.proofs.Walks.{Seconds, SecondGoes, beside_second, seconds_begin, seconds_end, seconds_step}
use Rattle.turn_defs.specs.Walks.{Next, is_over, next_place}
use Rattle.table_defs.specs.declared.change.Item.{Item}
use Rattle.host_sessions.specs.declared.sessions.Sessions.{Sessions}
use Rattle.host_sessions.specs.Holds as sessions
use Rattle.control_core.specs.declared.state.Core.{Core}
use Rattle.control_core.specs.Stands.{Holds, Lags}
use Rattle.control_core.specs.Does.{Does, TellsOn}
use Rattle.control_core.specs.Passing.{MayPass}
use Rattle.control_core.proofs.Lemmas.{lags_by}
use Rattle.control_core.proofs.Passing.{fewer_pass, passes_on}

-- so many of them had theirs, and the next is at this place of the order
pub record Comes (k n : ℕ) (s : State) (core : Core) (from to : Things) (before after : List Item) : Type 0 where
  pub state : State
  pub said : List Sent
  pub walk : Seconds s n (length s.sessions - k) state said
  pub may : MayPass (length s.sessions - k) state
  pub holds : Holds core state
  pub sent : to ≡ with_sent said from
  pub told : TellsOn s state before after

pub comes_first : (s : State) (core : Core) (from : Things) (before : List Item) → Holds core s → MayPass (length s.sessions) s → Comes 0 0 s core from from before before
comes_first s core from before h m =
    let all : length s.sessions ≡ length s.sessions - 0 = omega arith in
    record {
      state = s;
      said = [];
      walk = subst (λ (left : ℕ). Seconds s 0 left s []) all (seconds_begin s m.between m.vlans);
      may = subst (λ (left : ℕ). MayPass left s) all m;
      holds = h;
      sent = ap (λ (items : List Sent). record from { items = items }) (sym (append-nil from.items));
      told = λ start told. told;
    }

-- what is known of the next of them
pub record Passes (n : ℕ) (core : Core) : Type 0 where
  pub session : Session
  pub state : State
  pub holds : Holds core state
  pub next : Next session n state
  pub may : MayPass 1 state

one_less : (k l : ℕ) → k < l → l - k ≡ suc (l - (k + 1))
one_less k l less = omega arith

pub comes_passes : {k n : ℕ} {s : State} {core : Core} {from to : Things} {before after : List Item} → k < length s.sessions → Comes k n s core from to before after → Passes n core
comes_passes {k = k} {n = n} {s = s} less w =
    let left : ℕ = length s.sessions - (k + 1) in
    let more : length s.sessions - k ≡ suc left = one_less k (length s.sessions) less in
    let goes : SecondGoes s n left w.state w.said = seconds_step s n left w.state w.said (subst (λ (m : ℕ). Seconds s n m w.state w.said) more w.walk) in
    record { session = goes.session; state = w.state; holds = w.holds; next = goes.next; may = fewer_pass left w.state (subst (λ (m : ℕ). MayPass m w.state) more w.may) }

-- what the second of one of them does
pub record Passed (n : ℕ) (closed : Bool) (core core' : Core) (from to : Things) (before after : List Item) : Type 0 where
  pub does : (y : Session) (t : State) → Holds core t → Next y n t → MayPass 1 t → Does t (second_of y t) core' from to before after
  pub closes : (y : Session) (t : State) → Holds core t → Next y n t → MayPass 1 t → closed ≡ is_over y t

pub comes_next : {k n : ℕ} {s : State} {core core' : Core} {from mid to : Things} {before amid after : List Item} (closed : Bool) → k < length s.sessions → Comes k n s core from mid before amid →
    Passed n closed core core' mid to amid after → Comes (k + 1) (next_place closed n) s core' from to before after
comes_next {k = k} {n = n} {s = s} {from = from} closed less w p =
    let left : ℕ = length s.sessions - (k + 1) in
    let more : length s.sessions - k ≡ suc left = one_less k (length s.sessions) less in
    let goes : SecondGoes s n left w.state w.said = seconds_step s n left w.state w.said (subst (λ (m : ℕ). Seconds s n m w.state w.said) more w.walk) in
    let may : MayPass (suc left) w.state = subst (λ (m : ℕ). MayPass m w.state) more w.may in
    let one : MayPass 1 w.state = fewer_pass left w.state may in
    let y : Session = goes.session in
    let t : State = (second_of y w.state).state in
    let sent : List Sent = (second_of y w.state).sent in
    let d = p.does y w.state w.holds goes.next one in
    record {
      state = t;
      said = w.said ++ sent;
      walk = subst (λ (b : Bool). Seconds s (next_place b n) left t (w.said ++ sent)) (sym (p.closes y w.state w.holds goes.next one)) goes.after;
      may = passes_on left y w.state goes.next.there may;
      holds = d.holds;
      sent = d.sent ∙ ap (with_sent sent) w.sent ∙ ap (λ (items : List Sent). record from { items = items }) (append_assoc from.items w.said sent);
      told = λ start told. d.told start (w.told start told);
    }

pub comes_last : {k n : ℕ} {s : State} {core : Core} {from to : Things} {before after : List Item} → k ≡ length s.sessions → Comes k n s core from to before after → Does s (each_second s.sessions s) core from to before after
comes_last {k = k} {n = n} {s = s} {core = core} {from = from} {before = before} {after = after} all w =
    let none : length s.sessions - k ≡ 0 = omega (arith, all) in
    let e = seconds_end s n w.state w.said (subst (λ (left : ℕ). Seconds s n left w.state w.said) none w.walk) in
    record {
      holds = subst (Holds core) e.0 w.holds;
      sent = w.sent ∙ ap (λ (said : List Sent). with_sent said from) e.1;
      told = subst (λ (t : State). TellsOn s t before after) e.0 w.told;
    }

-- ---- one of them

pub lags : (closed : Bool) (port : ℕ) (core : Core) (k : Sessions) (y : Session) (s : State) → Holds core s → port ≡ y.host.port → closed ≡ is_over y s → sessions.Holds k (second_of y s).state →
    Lags closed port (record core { sessions = k }) (second_of y s).state
lags closed port core k y s h p c d = lags_by closed (is_over y s) port y.host.port core k s (second_of y s).state h.config h.clock h.ports h.kept p c (beside_second y s) d

-- what its host is authorised for then
pub right_after : (closed : Bool) (y : Session) (s : State) (after : Option Right) → closed ≡ is_over y s → (closed ≡ true → after ≡ None) →
    (is_over y s ≡ true → authorised (second_of y s).state y.host.port y.host.address ≡ None) →
    (closed ≡ false → after ≡ authorised (second_of y s).state y.host.port y.host.address) → after ≡ authorised (second_of y s).state y.host.port y.host.address
right_after true y s after c none ends goes = none refl ∙ sym (ends (sym c))
right_after false y s after c none ends goes = goes refl

pub both_of : {A B : Type 0} {p q : A × B} → Some p ≡ Some q → (p.0 ≡ q.0) × (p.1 ≡ q.1)
both_of {A} {B} {p = p} {q = q} e =
    let same : p ≡ q = cc in
    (ap (λ (r : A × B). r.0) same, ap (λ (r : A × B). r.1) same)
