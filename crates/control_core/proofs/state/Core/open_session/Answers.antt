use Rattle.std.proofs.Common.{◌≡◌, ℕ, ◌+◌, ◌<◌, ◌^◌, ◌∙◌, None, true, false, ap, subst, refl, sym, map}
use Rattle.machine_defs.specs.Live.{InRange}
use Rattle.switch_event.specs.Config.{Config}
use Rattle.switch_event.specs.declared.config.PortConf.{PortConf}
use Rattle.session_table.specs.Slots as slots
use Rattle.switch_defs.specs.Switch.{Host, Standing, port_address, port_of, session_at}
use Rattle.switch_defs.specs.Session.{Another, no_guests}
use Rattle.switch_defs.specs.Decide.{restricted_of, right_of}
use Rattle.switch_defs.specs.Turn.{fresh_standing, is_full, opened, with_session}
use Rattle.table_defs.specs.Change.{item_of}
use Rattle.table_defs.proofs.Told.{has_conf}
use Rattle.turn_defs.specs.Parts.{is_gone}
use Rattle.turn_defs.specs.Parts as parts
use Rattle.turn_defs.proofs.Parts.{beside_settle, near_open}
use Rattle.host_sessions.specs.Does as calls
use Rattle.control_core.proofs.Lemmas.{lags_by}
use Rattle.control_core.proofs.Hearing.{asked_fits, is_up, next_fits, port_is_one, same_number, sessions_hold}
use Rattle.control_core.proofs.state.Core.open_session.Goals as goal

pub open_session-closed-requires-clause-port : goal.open_session-closed-requires-clause-port
open_session-closed-requires-clause-port c =
    let s = c.requires.may.0 in
    let q = c.requires.may.1 in
    let m = c.requires.may.2 in
    subst (λ (n : ℕ). slots.is_port n ≡ true) (same_number m.here) (port_is_one s q c.args.conf.port m.hear.turn.stands.sound m.here.here)

pub open_session-closed-requires-clause-times : goal.open_session-closed-requires-clause-times
open_session-closed-requires-clause-times c =
    let s = c.requires.may.0 in
    let m = c.requires.may.2 in
    let h = c.shut_out_guests.ensures.holds s m.hear.turn.stands.holds in
    subst (λ (g : Config). InRange g.times) (sym h.config) m.hear.turn.stands.sound.times

pub open_session-closed-requires-clause-next : goal.open_session-closed-requires-clause-next
open_session-closed-requires-clause-next c =
    let s = c.requires.may.0 in
    let m = c.requires.may.2 in
    let h = c.shut_out_guests.ensures.holds s m.hear.turn.stands.holds in
    subst (λ (n : ℕ). n + 1 < 2 ^ 32) (sym h.sessions.next) (next_fits c.args.self.now.made s m.hear.turn.few m.hear.turn.stands.sound)

pub open_session-closed-requires-clause-asked : goal.open_session-closed-requires-clause-asked
open_session-closed-requires-clause-asked c =
    let s = c.requires.may.0 in
    let m = c.requires.may.2 in
    let h = c.shut_out_guests.ensures.holds s m.hear.turn.stands.holds in
    subst (λ (n : ℕ). n + 1 < 2 ^ 64) (sym h.sessions.asked) (asked_fits c.args.self.now.made s m.hear.turn.few m.hear.turn.stands.sound)

pub open_session-closed-requires-clause-may : goal.open_session-closed-requires-clause-may
open_session-closed-requires-clause-may c =
    let s = c.requires.may.0 in
    let q = c.requires.may.1 in
    let m = c.requires.may.2 in
    let h = c.shut_out_guests.ensures.holds s m.hear.turn.stands.holds in
    let port : c.args.conf.port ≡ q.conf.port = sym (same_number m.here) in (
      s,
      q,
      sessions_hold c.args.conf.port h.sessions,
      sym h.config,
      record {
        number = same_number m.here;
        own = ap (λ (g : Config). port_address g.bridge c.args.conf.port) (sym h.config) ∙ sym c.own-own.ensures;
        native = ap (λ (p : PortConf). p.native) m.here.settings;
      },
      record {
        new = subst (λ (n : ℕ). session_at n c.args.from.0 s ≡ None) port m.new;
        room = subst (λ (n : ℕ). is_full n s ≡ false) port m.room;
        ask = m.hear.settles;
      },
    )

pub returns-clause-does : goal.returns-clause-does
returns-clause-does c = λ s q m.
    let from = c.args.from.0 in
    let h = c.shut_out_guests.ensures.holds s m.hear.turn.stands.holds in
    let a = m.hear.turn.stands.sound in
    let g : Host = opened s q from in
    let x : Standing = fresh_standing s q from in
    let port : c.args.conf.port ≡ q.conf.port = sym (same_number m.here) in
    let of_port : calls.IsPortOf s q c.args.conf.port c.own-own.result.0 c.args.conf.native = record {
      number = same_number m.here;
      own = ap (λ (g : Config). port_address g.bridge c.args.conf.port) (sym h.config) ∙ sym c.own-own.ensures;
      native = ap (λ (p : PortConf). p.native) m.here.settings;
    } in
    let new : session_at q.conf.port from s ≡ None = subst (λ (n : ℕ). session_at n from s ≡ None) port m.new in
    let room : is_full q.conf.port s ≡ false = subst (λ (n : ℕ). is_full n s ≡ false) port m.room in
    let may : calls.MayOpen q from s = record { new = new; room = room; ask = m.hear.settles } in
    let d = c.open_session-closed.ensures.does s q (sessions_hold c.args.conf.port h.sessions) (sym h.config) of_port may in
    let gone = c.open_session-closed.ensures.gone s q (sym h.config) of_port in
    let lags = lags_by c.open_session-closed.result (is_gone x) c.args.conf.port q.conf.port c.shut_out_guests.new.self c.open_session-closed.new.self (with_session g x s) _
    h.config h.clock (h.ports ∙ ap (λ (n : ℕ). (no_guests n s).ports) port) h.kept port gone (beside_settle Another g x (with_session g x s)) d.holds in
    let right : None ≡ right_of (restricted_of (port_of c.args.conf.port (no_guests q.conf.port s))) (session_at c.args.conf.port from s) = ap (right_of (restricted_of (port_of c.args.conf.port (no_guests q.conf.port s)))) (sym m.new) in
    let near = near_open s q from a (is_up m.here).here new room in
    let shut : parts.TellsOn s (no_guests q.conf.port s) (map item_of c.args.items.now.items) (map item_of c.shut_out_guests.new.items.items) =
    subst (λ (n : ℕ). parts.TellsOn s (no_guests n s) (map item_of c.args.items.now.items) (map item_of c.shut_out_guests.new.items.items)) port
    (c.shut_out_guests.ensures.told s m.hear.turn.stands.holds (has_conf s c.args.conf.port q m.here.here)) in
    record {
      holds = c.follow.ensures.holds _ lags;
      sent = d.sent;
      told = λ start told. c.follow.ensures.told (no_guests q.conf.port s) _ g lags (record { on = sym port; whose = refl }) right near start (shut start told);
    }
