-- What is done to one session, and what an answer of the server does.
use Rattle.std.proofs.Common.{◌≡◌, ℕ, refl, sym, ap, subst, ◌∙◌, List, [], Option, Some, None, true}
use Rattle.std.specs.Prelude.{◌==◌, Result, Ok, Err}
use Rattle.std.specs.Cmp.{unsigned_Decides}
use Rattle.std.proofs.lemmas.List.{append-nil}
use Rattle.switch_event.specs.declared.drop.AaaDrop.{AaaDrop}
use Rattle.aaa_defs.specs.Answer.{Taking, answered}
use Rattle.aaa_defs.specs.Said.{said}
use Rattle.aaa_defs.specs.Waits.{forgotten}
use Rattle.switch_event.specs.Sent.{Sent}
use Rattle.switch_event.specs.declared.event.Outcome.TheVariants.{AnswerDropped, Done}
use Rattle.out_tray.specs.Tray.{Things}
use Rattle.typed_session.specs.Follows.{with_sent}
use Rattle.server_words.specs.declared.words.Told.{Told}
use Rattle.server_words.specs.Words.{Means, Says}
use Rattle.switch_defs.specs.Switch.{Port, Session, State, is_vlan, port_of, session_numbered}
use Rattle.switch_defs.specs.Answer.{answered_on, kept_of, native_of, says, told_by}
use Rattle.switch_defs.specs.Answer as answer
use Rattle.switch_defs.specs.Turn as model
use Rattle.switch_defs.specs.Sound.{In, IsOpenPort, IsSound}
use Rattle.switch_defs.specs.Laws.{MayAnswer}
use Rattle.switch_defs.proofs.Lists.{in_found, in_map, of_each}
use Rattle.switch_defs.proofs.Fitting.{SaysVlan, answer_vlan, native_vlan}
use Rattle.switch_defs.proofs.Naming.{answers_name_sessions}
use Rattle.switch_defs.proofs.Soundness.{answers_may_settle}
use Rattle.table_defs.specs.declared.change.Item.{Item}
use Rattle.host_sessions.specs.declared.sessions.Sessions.{Sessions}
use Rattle.host_sessions.specs.Holds as sessions
use Rattle.host_sessions.specs.Finds.{FindsAt, IsAt}
use Rattle.control_core.specs.declared.state.Core.{Core}
use Rattle.control_core.specs.Stands.{Holds, MayTurn}
use Rattle.control_core.specs.Does.{Does, Turns}
use Rattle.control_core.specs.Answering as given

-- ---- one session

-- nothing is sent
pub none_sent : (from : Things) → from ≡ with_sent [] from
none_sent from = ap (λ (items : List Sent). record from { items = items }) (sym (append-nil from.items))

pub none_is_some : {A : Type 0} {x : A} → None ≡ Some x → ⊥
none_is_some e = cc

-- where a session is kept that there is
pub kept_at : (r : Option ℕ) (at : ℕ) (o : Option Session) (y : Session) (k : Sessions) (s : State) → FindsAt r o k s → r ≡ Some at → o ≡ Some y → IsAt at y k s
kept_at r at o y k s f e g = subst (λ (p : Option Session). FindsAt (Some at) p k s) g (subst (λ (q : Option ℕ). FindsAt q o k s) e f)

pub kept_nowhere : (r : Option ℕ) (o : Option Session) (y : Session) (k : Sessions) (s : State) → FindsAt r o k s → r ≡ None → o ≡ Some y → ⊥
kept_nowhere r o y k s f e g = subst (λ (p : Option Session). FindsAt None p k s) g (subst (λ (q : Option ℕ). FindsAt q o k s) e f)

-- ---- what an answer says

native_open : {turns : ℕ} (s : State) (n : ℕ) (o : Option Port) → IsSound turns s → port_of n s ≡ o → IsOpenPort o → is_vlan (native_of o) ≡ true
native_open s n None a e p = absurd p
native_open s n (Some q) a e p = native_vlan s n q a e

-- a session's port has a VLAN
pub native_here : {turns : ℕ} (s : State) (y : Session) → IsSound turns s → In y s.sessions → is_vlan (native_of (port_of y.host.port s)) ≡ true
native_here s y a i = native_open s y.host.port (port_of y.host.port s) a refl (of_each (λ h. IsOpenPort (port_of h.port s)) a.placed (in_map (λ (y : Session). y.host) i))

pub means_so : (told : Told) (t : Taking) (eap : Option (List ℕ)) (n : ℕ) (s : State) (y : Session) →
    ((session : ℕ) → Says told (record { session = session; packet = t.packet; eap = eap }) n) → eap ≡ t.eap → n ≡ native_of (port_of y.host.port s) →
    Means told (says s t y) s.config.times y.standing.vars.current_id (kept_of y.standing)
means_so told t eap n s y said_ e f =
    let id : ℕ = y.standing.vars.current_id in
    let k = kept_of y.standing in
    subst (λ (m : ℕ). Means told (said t m s.config.times id k) s.config.times id k) f
    (subst (λ (a : Option (List ℕ)). Means told (said (record { session = t.session; packet = t.packet; eap = a }) n s.config.times id k) s.config.times id k) e (said_ t.session s.config.times id k))

-- ---- an answer that is dropped

pub holds_same : (core : Core) (k : Sessions) (s : State) → Holds core s → k ≡ core.sessions → Holds (record core { sessions = k }) s
holds_same core k s h e = record {
  config = h.config;
  clock = h.clock;
  ports = h.ports;
  sessions = subst (λ (l : Sessions). sessions.Holds l s) (sym e) h.sessions;
  kept = h.kept;
}

pub turns_dropped : (s : State) (socket : ℕ) (octets : List ℕ) (drop : AaaDrop) (core : Core) (tray : Things) (items : List Item) →
    answered s.waits socket octets s.config.secret s.config.require_ma ≡ Err drop → Holds core s →
    Turns s (model.do_answer s (answered_on s socket octets)) core (AnswerDropped drop) tray tray items items
turns_dropped s socket octets drop core tray items e h =
    subst (λ (r : Result Taking AaaDrop). Turns s (model.do_answer s (told_by s r)) core (AnswerDropped drop) tray tray items items) (sym e)
    (record { holds = h; became = refl; sent = none_sent tray; told = λ start told. told })

-- ---- an answer that is taken

pub is_told : (s : State) (socket : ℕ) (octets : List ℕ) (t : Taking) (y : Session) → answered s.waits socket octets s.config.secret s.config.require_ma ≡ Ok t → session_numbered t.session s ≡ Some y →
    answered_on s socket octets ≡ answer.Told y (says s t y)
is_told s socket octets t y e named = ap (told_by s) e ∙ ap (answer.told s t) named

pub may_tell : (core : Core) (k : Sessions) (s : State) (socket : ℕ) (octets : List ℕ) (t : Taking) → MayTurn core s → answered s.waits socket octets s.config.secret s.config.require_ma ≡ Ok t →
    sessions.Holds k (record s { waits = forgotten t.session s.waits }) → (y : Session) × given.MayTell t y (record core { sessions = k }) s
may_tell core k s socket octets t m e h =
    let a = m.stands.sound in
    let n = answers_name_sessions core.made s socket octets t a e in
    let y : Session = n.0 in
    let named : session_numbered t.session s ≡ Some y = n.1 in
    let number : y.host.number ≡ t.session = (unsigned_Decides y.host.number t.session).0 (in_found (λ y. y.host.number == t.session) s.sessions y named).1 in
    let is : answered_on s socket octets ≡ answer.Told y (says s t y) = is_told s socket octets t y e named in (
      y,
      record {
        holds = record {
          config = m.stands.holds.config;
          clock = m.stands.holds.clock;
          ports = m.stands.holds.ports;
          sessions = subst (λ (n : ℕ). sessions.Holds k (record s { waits = forgotten n s.waits })) (sym number) h;
          kept = m.stands.holds.kept;
        };
        sound = a;
        few = m.few;
        named = named;
        ask = subst (MayAnswer s) is (answers_may_settle core.made s socket octets a);
        vlan = subst SaysVlan is (answer_vlan s socket octets a);
      },
    )

pub turns_told : (s : State) (socket : ℕ) (octets : List ℕ) (t : Taking) (y : Session) (core : Core) (from to : Things) (before after : List Item) →
    answered s.waits socket octets s.config.secret s.config.require_ma ≡ Ok t → session_numbered t.session s ≡ Some y → Does s (given.told t y s) core from to before after →
    Turns s (model.do_answer s (answered_on s socket octets)) core Done from to before after
turns_told s socket octets t y core from to before after e named d =
    subst (λ (k : answer.Answered). Turns s (model.do_answer s k) core Done from to before after) (sym (is_told s socket octets t y e named))
    (record { holds = d.holds; became = refl; sent = d.sent; told = d.told })
