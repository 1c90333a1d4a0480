-- What a dynamic request does to one session, and what is told of it.
use Rattle.std.proofs.Common.{◌≡◌, ℕ, ◌∙◌, refl, sym, ap, subst, List, map, Bool, Option, None, Some}
use Rattle.std.proofs.lemmas.Option.{same_Some}
use Rattle.wire_core.specs.declared.address.Mac.{Mac}
use Rattle.radius_defs.specs.declared.Timeout.{Timeout}
use Rattle.radius_defs.proofs.InRangeLemmas.{timeout_in_range}
use Rattle.dynauth_defs.specs.declared.Action.{Action}
use Rattle.dynauth_defs.specs.declared.Action.TheVariants.{Disconnect, Change}
use Rattle.dynauth_defs.specs.Judge.{Ack}
use Rattle.wire_core.specs.declared.address.Addr.{Addr}
use Rattle.switch_defs.specs.Switch.{Host, Session, State, session_numbered}
use Rattle.switch_defs.specs.Dynamic.{act, changed, disconnected, judged_on, row_of}
use Rattle.switch_defs.specs.Sound.{IsSound}
use Rattle.switch_defs.proofs.Fitting.{request_vlan}
use Rattle.switch_defs.specs.Fitting.{NamesVlan}
use Rattle.switch_defs.proofs.Judging.{Acks, judged_acks}
use Rattle.switch_defs.proofs.Naming.{dynamics_name_sessions}
use Rattle.turn_defs.specs.Parts.{Beside, armed_if}
use Rattle.host_sessions.specs.declared.sessions.Sessions.{Sessions}
use Rattle.host_sessions.specs.Holds as sessions
use Rattle.host_sessions.specs.Finds.{FindsAt, IsAt}
use Rattle.control_core.specs.declared.state.Core.{Core}
use Rattle.control_core.specs.Stands.{Holds, Lags}
use Rattle.control_core.specs.Does.{IsOfHost}
use Rattle.control_core.specs.Acts.{HasTime, MayAct}

-- a session's key is that of its host
abbrev pub key_of : Host → ℕ × Mac
key_of h = (h.port, record { 0 = h.address })

pub of_key : (h : Host) (key : ℕ × Mac) → Some key ≡ Some (key_of h) → IsOfHost h key.0 key.1.0
of_key h key e =
    let k : key ≡ key_of h = same_Some key (key_of h) e in
    record {
      on = sym (ap (λ (p : ℕ × Mac). p.0) k);
      whose = sym (ap (λ (p : ℕ × Mac). p.1.0) k);
    }

-- a session that there is is at the place that is found
pub found_at : (k : Sessions) (s : State) (at : ℕ) (y : Session) (o : Option Session) → o ≡ Some y →
    FindsAt (Some at) o k s → IsAt at y k s
found_at k s at y o is found = subst (λ (p : Option Session). FindsAt (Some at) p k s) is found

-- what is beside the sessions is as it was, but that the port of a host is still to be armed
pub lags : (closed : Bool) (h : Host) (port : ℕ) (address : List ℕ) (core : Core) (k : Sessions)
    (s t : State) → IsOfHost h port address → Holds core s → Beside closed h.port s t →
    sessions.Holds k t → Lags closed port (record core { sessions = k }) t
lags closed h port address core k s t host holds beside held = record {
  config = holds.config ∙ sym beside.config;
  clock = holds.clock ∙ sym beside.clock;
  ports = beside.ports ∙ (λ i. armed_if closed (host.on i) t (sym holds.ports i));
  sessions = held;
  kept = holds.kept ∙ sym beside.kept;
}

-- ---- an act

disconnected_beside : (o : Option Session) (s : State) →
    ((disconnected o s).state.config ≡ s.config) × ((disconnected o s).state.kept ≡ s.kept)
disconnected_beside None s = (refl, refl)
disconnected_beside (Some y) s = (refl, refl)

changed_beside : (vlan : Option ℕ) (time : Timeout) (o : Option Session) (s : State) →
    ((changed vlan time o s).state.config ≡ s.config) × ((changed vlan time o s).state.kept ≡ s.kept)
changed_beside vlan time None s = (refl, refl)
changed_beside vlan time (Some y) s = (refl, refl)

-- the settings and the replies are as before
pub act_beside : (a : Action) (s : State) →
    ((act a s).state.config ≡ s.config) × ((act a s).state.kept ≡ s.kept)
act_beside (Disconnect number) s = disconnected_beside (session_numbered number s) s
act_beside (Change number vlan time) s =
    changed_beside vlan time (session_numbered number s) s

-- what is acknowledged may be done
pub may_act : (turns : ℕ) (s : State) (from : Addr) (octets : List ℕ) (a : Action) → IsSound turns s →
    Ack a ≡ judged_on s from octets → MayAct a s
may_act turns s from octets a sound e = record {
  session = dynamics_name_sessions turns s from octets a sound (sym e);
  vlan = subst (Acks NamesVlan) (sym e) (request_vlan s from octets);
  time = subst (Acks HasTime) (sym e)
      (judged_acks HasTime (map row_of s.sessions) (λ r i. tt)
      (λ p r i granted. timeout_in_range p.attributes) s.config s.kept s.clock from octets);
}
