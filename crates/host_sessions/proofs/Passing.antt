-- A second of a session, before it settles: its request is aged.
use Rattle.std.proofs.Common.{◌≡◌, ℕ, ◌∙◌, refl, sym, ap, subst}
use Rattle.aaa_defs.specs.Waits.{Waits, pending_of}
use Rattle.aaa_defs.specs.Age.{aged, after_second}
use Rattle.switch_event.specs.Config.{Config}
use Rattle.switch_defs.specs.Switch as switch
use Rattle.switch_defs.specs.Switch.{State}
use Rattle.switch_defs.specs.Turn.{age_request}
use Rattle.switch_defs.specs.Laws.{IsBetween}
use Rattle.switch_defs.specs.Sound.{IsAtRest}
use Rattle.switch_defs.proofs.Lists.{of_each}
use Rattle.switch_defs.proofs.Soundness.{seconds_may_settle}
use Rattle.host_sessions.specs.declared.sessions.Sessions.{Sessions}
use Rattle.host_sessions.specs.Holds.{Holds}
use Rattle.host_sessions.specs.Finds.{IsAt}
use Rattle.host_sessions.specs.Does.{MayTurn, a_second_later}
use Rattle.host_sessions.specs.Follows.{WaitsFor}

pub is_at_rest : (k : Sessions) (s : State) (at : ℕ) (y : switch.Session) → IsBetween s → IsAt at y k s →
    IsAtRest s.waits y
is_at_rest k s at y between i = of_each (IsAtRest s.waits) between.rests.sessions i.there

pub waits_for : (k : Sessions) (s : State) (at : ℕ) (y : switch.Session) (n : ℕ) → Holds k s →
    IsBetween s → IsAt at y k s → n ≡ y.host.number → WaitsFor n k.waits y.standing
waits_for k s at y n holds between i number =
    let P : ℕ → Type 0 = λ m. WaitsFor m k.waits y.standing in
    let Q : Waits → Type 0 = λ w. WaitsFor y.host.number w y.standing in
    subst P (sym number) (subst Q (sym holds.waits) (is_at_rest k s at y between i).waiting)

-- the request that is aged is the one of the definitions
pub pending_is : (k : Sessions) (s : State) (y : switch.Session) (n : ℕ) → Holds k s →
    n ≡ y.host.number → pending_of n k.waits ≡ pending_of y.host.number s.waits
pending_is k s y n holds number = rw (number, holds.waits) refl

pub aged_may : (c : Config) (k : Sessions) (s : State) (at : ℕ) (y : switch.Session) (n : ℕ) (w : Waits) →
    Holds k s → s.config ≡ c → IsAt at y k s → IsBetween s → n ≡ y.host.number →
    w ≡ after_second n k.waits →
    MayTurn c (record k { waits = w }) at y (a_second_later y s)
    (age_request (aged (pending_of y.host.number s.waits)) y.host s)
aged_may c k s at y n w holds config i between number e = record {
  holds = record {
    table = holds.table;
    sessions = holds.sessions;
    waits = e ∙ ap (λ (m : ℕ). after_second m k.waits) number ∙ ap (after_second y.host.number) holds.waits;
    asked = holds.asked;
    next = holds.next;
  };
  config = config;
  here = record { entry = i.entry; here = i.here; there = i.there; is = i.is };
  ask = (seconds_may_settle y s between i.there).1;
}
