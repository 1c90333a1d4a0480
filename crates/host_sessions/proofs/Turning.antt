-- A session that was settled: what follows from it, and that this is what the switch does.
use Rattle.std.proofs.Common.{◌≡◌, ℕ, ◌∙◌, refl, sym, ap, subst, append_assoc, List, ◌++◌, Some, Bool, true, false}
use Rattle.machine_vars.specs.declared.vars.Vars.{Vars}
use Rattle.machine_vars.specs.declared.wants.Wants.{Wants}
use Rattle.machine_defs.specs.Words.{wants_of}
use Rattle.settle_defs.specs.Settle.{settled}
use Rattle.settle_defs.proofs.SettleLaws.{keeps_its_peer}
use Rattle.switch_event.specs.Config.{Config}
use Rattle.switch_event.specs.Sent.{Sent}
use Rattle.switch_event.specs.Frames.{frames}
use Rattle.out_tray.specs.Tray.{Things}
use Rattle.typed_session.specs.Follows.{with_sent}
use Rattle.session_table.specs.Slots.{value_at, renewed}
use Rattle.switch_defs.specs.Switch as switch
use Rattle.switch_defs.specs.Switch.{Host, Standing, State, Did}
use Rattle.switch_defs.specs.Session.{Cause, ask_if, forget_if, place, rested, settle_session}
use Rattle.switch_defs.specs.Laws.{MayAsk}
use Rattle.switch_defs.proofs.Soundness.{asks_once}
use Rattle.host_session.specs.declared.session.Session.{Session}
use Rattle.host_session.specs.Settles.{IsWanted, Settles}
use Rattle.host_sessions.specs.declared.sessions.Sessions.{Sessions}
use Rattle.host_sessions.specs.Finds.{IsAt}
use Rattle.host_sessions.specs.Does.{Does, MayTurn}
use Rattle.host_sessions.specs.Follows.{IsToAsk, MayFollow, followed}
use Rattle.host_sessions.proofs.Holding.{placed, placed_at, value_is}

-- ---- the place of a session, as its request is forgotten or made

pub forgot_at : (b : Bool) (at : ℕ) (y : switch.Session) (k l : Sessions) (h : Host) (s : State) →
    l.slots ≡ k.slots → IsAt at y k s → IsAt at y l (forget_if b h s)
forgot_at true at y k l h s same i =
    record { entry = i.entry; here = rw same i.here; there = i.there; is = i.is }
forgot_at false at y k l h s same i =
    record { entry = i.entry; here = rw same i.here; there = i.there; is = i.is }

pub forgot_config : (b : Bool) (h : Host) (s : State) → (forget_if b h s).config ≡ s.config
forgot_config true h s = refl
forgot_config false h s = refl

pub asked_at : (b : Bool) (at : ℕ) (y : switch.Session) (k l : Sessions) (h : Host) (x : Standing)
    (s : State) → l.slots ≡ k.slots → IsAt at y k s → IsAt at y l (ask_if b h x s).state
asked_at true at y k l h x s same i =
    record { entry = i.entry; here = rw same i.here; there = i.there; is = i.is }
asked_at false at y k l h x s same i =
    record { entry = i.entry; here = rw same i.here; there = i.there; is = i.is }

-- ---- what is wanted

pub wanted_is : (w : Wants) (v : Vars) → IsWanted w v → w ≡ wants_of v
wanted_is w v is = rw (sym is.ask, sym is.abort, sym is.gone) refl

-- where the server is to be asked about a session that was settled, it may be
pub to_ask : (why : Cause) (h : Host) (x : Standing) (s : State) (w : Wants) → MayAsk h x s →
    IsWanted w (settled x.vars).vars → w.ask ≡ true →
    let x' = rested why x (settled x.vars).vars in
    IsToAsk (record { host = h; standing = x' }) (forget_if w.abort h (place h x' s))
to_ask why h x s w may is asks =
    let v = (settled x.vars).vars in
    let x' = rested why x v in
    let r : v.aaa_eap_resp ≡ true = sym is.ask ∙ asks in
    let once = asks_once why h x s may r in
    let P : Bool → Type 0 = λ b. IsToAsk (record { host = h; standing = x' }) (forget_if b h (place h x' s)) in
    subst P (sym is.abort) (record { idle = may.settle.fine.asks r; named = once.2; free = once.0; room = once.1 })

-- ---- a session that was settled in its place

pub turned : (why : Cause) (c : Config) (k : Sessions) (at : ℕ) (y : switch.Session) (x : Standing)
    (s : State) (v w : Session) (wants : Wants) (from to : Things) → MayTurn c k at y x s →
    Some v ≡ value_at at k.slots → w.number ≡ v.number → x.vars.times ≡ y.standing.vars.times →
    Settles why x w wants from to →
    let x' = rested why x (settled x.vars).vars in
    MayFollow c (record k { slots = renewed at w k.slots }) at wants (record y { standing = x' })
    (place y.host x' s)
turned why c k at y x s v w wants from to may here number times settles =
    let x' = rested why x (settled x.vars).vars in
    let keeps = keeps_its_peer x.vars may.ask.settle.ready in
    let timed : x'.vars.times ≡ s.config.times = keeps.times ∙ times ∙ may.here.is.timed in
    let same : w.number ≡ may.here.entry.value.number =
    number ∙ ap (λ (u : Session). u.number) (value_is k s at y v may.here here) in
    record {
      has = record {
        holds = placed k s at y w x' may.holds may.here same settles.sits timed;
        config = may.config;
        here = placed_at k s at y w x' may.here same settles.sits timed;
      };
      asks = λ e. to_ask why y.host x s wants may.ask settles.wants e;
    }

-- one sending after another
pub sent_then : (a b : List Sent) (from mid to : Things) → mid ≡ with_sent a from → to ≡ with_sent b mid →
    to ≡ with_sent (a ++ b) from
sent_then a b from mid to e f =
    f ∙ ap (with_sent b) e ∙ ap (λ (xs : List Sent). record from { items = xs }) (append_assoc from.items a b)

pub turned_does : (why : Cause) (h : Host) (x : Standing) (s : State) (w : Session) (wants : Wants)
    (k : Sessions) (from mid to : Things) → Settles why x w wants from mid →
    let x' = rested why x (settled x.vars).vars in
    Does (followed wants h x' (place h x' s)) k mid to → Does (settle_session why h x s) k from to
turned_does why h x s w wants k from mid to settles does =
    let v = (settled x.vars).vars in
    let x' = rested why x v in
    let P : Wants → Type 0 = λ u. Does (followed u h x' (place h x' s)) k mid to in
    let d = subst P (wanted_is wants v settles.wants) does in
    record {
      holds = d.holds;
      sent = sent_then (frames v (settled x.vars).packets) (followed (wants_of v) h x' (place h x' s)).sent from mid to settles.sent d.sent;
    }
