-- The walk over the sessions, and then no guests.
use Rattle.std.proofs.Common.{◌≡◌, ◌∙◌, ℕ, suc, ◌+◌, ◌-◌, ◌≤◌, Bool, true, false, List, subst, sym, arith}
use Rattle.switch_event.specs.declared.config.PortConf.{PortConf}
use Rattle.switch_defs.specs.Switch.{Session, State, on_port}
use Rattle.switch_defs.specs.Turn.{close_all, on_port_of}
use Rattle.switch_defs.specs.Sound.{confs}
use Rattle.switch_defs.proofs.Keeping.{kept_close_all}
use Rattle.table_defs.specs.Told.{HasConf}
use Rattle.turn_defs.specs.Walks.{next_place}
use Rattle.control_core.proofs.Closing.{closed_end, closed_goes, closed_step, may_end}
use Rattle.control_core.proofs.state.Core.close_port.Goals as goal

next_near : (b : Bool) (n : ℕ) → next_place b n ≤ n + 1
next_near true n = omega arith
next_near false n = omega arith

pub close_on-n-requires-clause-may : goal.close_on-n-requires-clause-may
close_on-n-requires-clause-may c =
    let m : ℕ = c.len-session-end.result - (c.sessions._session + 1) in
    let e : c.len-session-end.result - c.sessions._session ≡ suc m = omega arith in
    let k = c.sessions.invariant.walk c.requires.may.0 c.requires.may.1 in
    (k.state, (closed_goes m e k).session, may_end m e c.requires.may.1 k)

pub sessions-preserved : goal.sessions-preserved
sessions-preserved c =
    let m : ℕ = c.len-session-end.result - (c.sessions._session + 1) in
    let e : c.len-session-end.result - c.sessions._session ≡ suc m = omega arith in
    let k = c.sessions.invariant.walk c.requires.may.0 c.requires.may.1 in
    let y : Session = (closed_goes m e k).session in
    let at : c.close_on-n.result ≡ next_place (on_port c.args.port y) c.sessions.n = c.close_on-n.ensures.next k.state y (may_end m e c.requires.may.1 k) in
    let near : next_place (on_port c.args.port y) c.sessions.n ≤ c.sessions.n + 1 = next_near (on_port c.args.port y) c.sessions.n in
    record {
      walk = λ s mc. closed_step m c.close_on-n.result e mc (c.sessions.invariant.walk s mc) c.close_on-n.new.self c.close_on-n.new.items.items c.close_on-n.ensures.next c.close_on-n.ensures.holds c.close_on-n.ensures.told;
      few = omega (arith, c.close_on-n.ensures.few, c.sessions.invariant.few);
      place = omega (arith, at, near, c.sessions.invariant.place);
      made = c.close_on-n.ensures.made ∙ c.sessions.invariant.made;
    }

pub returns-clause-told : goal.returns-clause-told
returns-clause-told c = λ s mc.
    let over : c.len-session-end.result - c.sessions._session ≡ 0 = omega arith in
    let all = closed_end over (c.sessions.invariant.walk s mc) in
    let t : State = close_all (on_port_of c.args.port s) s in
    let here : HasConf (confs t.ports) c.args.port = subst (λ (cs : List PortConf). HasConf cs c.args.port) (sym (kept_close_all (on_port_of c.args.port s) s).confs) mc.closes.here in
    λ start b. c.shut_out_guests.ensures.told t all.0 here start (all.1 start b)
