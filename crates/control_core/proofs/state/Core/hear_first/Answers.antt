use Rattle.std.proofs.Common.{◌≡◌, ℕ, ◌≤◌, ◌<◌, ◌∙◌, false, length, subst, sym}
use Rattle.host_frames.specs.Heard.{event_of}
use Rattle.switch_event.specs.declared.drop.FrameDrop.TheVariants.{PortFull}
use Rattle.switch_defs.specs.Turn.{is_full, on_port_of}
use Rattle.control_core.specs.Hearing.{MayBegin}
use Rattle.control_core.proofs.Hearing.{first_case, frame_dropped, full_by, full_case, may_as, opened_turns, room_by, same_number, turns_as}
use Rattle.control_core.proofs.state.Core.hear_first.Goals as goal

pub returns-then-count-ge-HOSTS_A_PORT-clause-turns : goal.returns-then-count-ge-HOSTS_A_PORT-clause-turns
returns-then-count-ge-HOSTS_A_PORT-clause-turns c = λ s q k new m.
    let h = m.turn.stands.holds in
    let e = event_of c.args.heard.now.said in
    let on : c.count.result ≡ length (on_port_of q.conf.port s) = subst (λ (n : ℕ). c.count.result ≡ length (on_port_of n s)) (sym (same_number k)) (c.count.ensures.count s h.sessions) in
    let many : 16 ≤ c.count.result = c.if-count-ge-HOSTS_A_PORT.true in
    turns_as (full_case s q c.args.heard.now.from.0 e (sym c.is_logoff.ensures ∙ c.if-is_logoff.false) (full_by c.count.result (length (on_port_of q.conf.port s)) on many))
    (frame_dropped s PortFull _ c.args.tray.now c.args.items.now.items h)

pub open_session-requires-clause-may : goal.open_session-requires-clause-may
open_session-requires-clause-may c =
    let s = c.requires.may.0 in
    let q = c.requires.may.1 in
    let k = c.requires.may.2 in
    let new = c.requires.may.3 in
    let m = c.requires.may.4 in
    let h = m.turn.stands.holds in
    let e = event_of c.args.heard.now.said in
    let on : c.count.result ≡ length (on_port_of q.conf.port s) = subst (λ (n : ℕ). c.count.result ≡ length (on_port_of n s)) (sym (same_number k)) (c.count.ensures.count s h.sessions) in
    let few : c.count.result < 16 = c.if-count-ge-HOSTS_A_PORT.false in
    let room : is_full q.conf.port s ≡ false = room_by c.count.result (length (on_port_of q.conf.port s)) on few in (
      s,
      q,
      record {
        here = k;
        new = new;
        room = subst (λ (n : ℕ). is_full n s ≡ false) (same_number k) room;
        hear = may_as (first_case s q c.args.heard.now.from.0 e (sym c.is_logoff.ensures ∙ c.if-is_logoff.false) room) m;
      },
    )

pub returns-clause-turns : goal.returns-clause-turns
returns-clause-turns c = λ s q k new m.
    let h = m.turn.stands.holds in
    let from = c.args.heard.now.from.0 in
    let e = event_of c.args.heard.now.said in
    let on : c.count.result ≡ length (on_port_of q.conf.port s) = subst (λ (n : ℕ). c.count.result ≡ length (on_port_of n s)) (sym (same_number k)) (c.count.ensures.count s h.sessions) in
    let few : c.count.result < 16 = c.if-count-ge-HOSTS_A_PORT.false in
    let room : is_full q.conf.port s ≡ false = room_by c.count.result (length (on_port_of q.conf.port s)) on few in
    let opens = first_case s q from e (sym c.is_logoff.ensures ∙ c.if-is_logoff.false) room in
    let begins : MayBegin c.args.conf q from c.args.self.now s = record {
      here = k;
      new = new;
      room = subst (λ (n : ℕ). is_full n s ≡ false) (same_number k) room;
      hear = may_as opens m;
    } in
    turns_as opens (opened_turns s q from (c.open_session.ensures.does s q begins))
