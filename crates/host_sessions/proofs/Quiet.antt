-- A second in which nothing falls due.
use Rattle.std.proofs.Common.{◌≡◌, ℕ, ◌-◌, ◌∙◌, refl, sym, ap, subst, [], ◌++◌, List, Option, Some, None, Bool, true, false}
use Rattle.std.specs.Prelude.{◌==◌, ◌&&◌, not}
use Rattle.std.proofs.lemmas.List.{append-nil}
use Rattle.machine_defs.specs.Live as live
use Rattle.settle_defs.specs.Settle.{settled}
use Rattle.aaa_defs.specs.Waits.{Pending, pending_of}
use Rattle.aaa_defs.specs.Age.{aged}
use Rattle.session_table.specs.Slots.{renewed, value_at}
use Rattle.switch_event.specs.Sent.{Sent}
use Rattle.out_tray.specs.Tray.{Things}
use Rattle.typed_session.specs.Follows.{with_sent}
use Rattle.switch_defs.specs.Switch as switch
use Rattle.switch_defs.specs.Switch.{Standing, State}
use Rattle.switch_defs.specs.Session.{Another, rested, settle_session}
use Rattle.switch_defs.specs.Turn.{age_request, is_given_up, second_by, sent_again, set_vars}
use Rattle.switch_defs.specs.Laws.{IsBetween}
use Rattle.host_session.specs.declared.session.Session.{Session}
use Rattle.host_session.specs.Settles as one
use Rattle.host_session.specs.Settles.{Settles, SettlesIdly, later, nothing}
use Rattle.host_session.specs.Shows.{is_aaa_idle}
use Rattle.host_sessions.specs.declared.sessions.Sessions.{Sessions}
use Rattle.host_sessions.specs.Holds.{Holds}
use Rattle.host_sessions.specs.Finds.{IsAt}
use Rattle.host_sessions.specs.Does.{Does, a_second_later}
use Rattle.host_sessions.specs.Idles.{Idles}
use Rattle.host_sessions.proofs.Holding.{value_number, value_sits}
use Rattle.host_sessions.proofs.Passing.{aged_may, pending_is, waits_for}
use Rattle.host_sessions.proofs.Turning.{turned, turned_does}
use Rattle.host_sessions.proofs.Waiting.{none_waits, unaged}

-- its end does not come in it
no_end : (over idle : Bool) → (not over && idle) ≡ true → over ≡ false
no_end false idle e = refl
no_end true idle e = cc

pub idles_of : (k : Sessions) (s : State) (at : ℕ) (y : switch.Session) (v w : Session) → Holds k s →
    IsAt at y k s → IsBetween s → Some v ≡ value_at at k.slots → w.number ≡ v.number →
    one.is_idle v ≡ true → SettlesIdly y.standing w →
    Idles y s (record k { slots = renewed at w k.slots })
idles_of k s at y v w holds i between here number idle settled_so =
    let same = value_number k s at y v i here in
    let waits = waits_for k s at y v.number holds between i same in
    let no_request : pending_of v.number k.waits ≡ None =
    none_waits (pending_of v.number k.waits) y.standing.vars.eap waits (sym (ap is_aaa_idle settled_so.state)) in
    let none : pending_of y.host.number s.waits ≡ None =
    sym (pending_is k s y v.number holds same) ∙ no_request in
    let s1 : State = age_request (aged (pending_of y.host.number s.waits)) y.host s in
    let may = aged_may s.config k s at y v.number k.waits holds refl i between same (sym (unaged v.number k.waits no_request)) in
    let x : Standing = a_second_later y s in
    let is_later : later y.standing ≡ x =
    sym (ap (λ (o : Option Pending). set_vars (live.Second (is_given_up (aged o))) (record y.standing { end_while = y.standing.end_while - 1 })) none) in
    let P : Standing → Type 0 = λ z. (tray : Things) → Settles Another z w nothing tray tray in
    let settles : (tray : Things) → Settles Another x w nothing tray tray = subst P is_later settled_so.settles in
    let k2 : Sessions = record k { slots = renewed at w k.slots } in
    let over : (y.standing.end_while == 1) ≡ false =
    ap (λ (n : ℕ). n == 1) (sym (value_sits k s at y v i here).end_while) ∙ no_end (v.end_while == 1) _ idle in
    let gone : (settled x.vars).vars.gone ≡ false = sym (settles (record { sessions = 0; items = [] })).wants.gone in
    let Q : Bool → Type 0 = λ b. (tray : Things) → Does (second_by b y s) k2 tray tray in
    record {
      does = subst Q (sym over) (λ tray.
          let x' : Standing = rested Another x (settled x.vars).vars in
          let f = turned Another s.config k at y x s1 v w nothing tray tray may here number refl (settles tray) in
          let R : List Sent → Type 0 = λ items. tray ≡ record tray { items = items } in
          let d = turned_does Another y.host x s1 w nothing k2 tray tray tray (settles tray)
          (record { holds = f.has.holds; sent = subst R (sym (append-nil tray.items)) refl }) in
          let T : Option Pending → Type 0 = λ o.
          tray ≡ with_sent (sent_again (aged o) o ++ (settle_session Another y.host x s1).sent) tray in
          record { holds = d.holds; sent = subst T (sym none) d.sent });
      goes_on = rw (over, gone) refl;
      before = settled_so.before;
      after = subst (λ (z : Standing). (settled z.vars).vars.auth_port_status ≡ true) is_later settled_so.after;
    }
