use Rattle.std.proofs.Common.{refl, sym}
use Rattle.machine_defs.specs.Live.{Event}
use Rattle.host_frames.specs.Heard.{event_of}
use Rattle.switch_defs.specs.Switch.{Standing}
use Rattle.switch_defs.specs.Turn.{cause_of, set_vars}
use Rattle.switch_defs.specs.Sound.{HasVlan}
use Rattle.switch_defs.proofs.Lists.{of_each}
use Rattle.turn_defs.specs.Parts.{is_gone}
use Rattle.turn_defs.proofs.Parts.{beside_settle, near_settle}
use Rattle.host_sessions.specs.Does as calls
use Rattle.control_core.proofs.Lemmas.{lags_by}
use Rattle.control_core.proofs.state.Core.hear_known.Goals as goal

pub hear-closed-requires-clause-may : goal.hear-closed-requires-clause-may
hear-closed-requires-clause-may c =
    let s = c.requires.may.0 in
    let y = c.requires.may.1 in
    let k = c.requires.may.2 in
    let m = c.requires.may.3 in
    let h = m.turn.stands.holds in
    (y, s, record { holds = h.sessions; config = sym h.config; here = k.here; ask = m.settles })

pub returns-clause-turns : goal.returns-clause-turns
returns-clause-turns c = λ s y k m.
    let e : Event = event_of c.args.heard.now.said in
    let x : Standing = set_vars e y.standing in
    let h = m.turn.stands.holds in
    let a = m.turn.stands.sound in
    let may : calls.MayTurn c.args.self.now.config c.args.self.now.sessions c.args.at y x s = record { holds = h.sessions; config = sym h.config; here = k.here; ask = m.settles } in
    let d = c.hear-closed.ensures.does y s may in
    let gone = c.hear-closed.ensures.gone y s may in
    let lags = lags_by c.hear-closed.result (is_gone x) c.args.port y.host.port c.args.self.now c.hear-closed.new.self s _ h.config h.clock h.ports h.kept (sym k.host.on) gone (beside_settle (cause_of e) y.host x s) d.holds in
    let near = near_settle (cause_of e) y x s a k.here.there (of_each HasVlan a.vlans k.here.there) in
    record {
      holds = c.follow.ensures.holds _ lags;
      became = refl;
      sent = d.sent;
      told = c.follow.ensures.told s _ y.host lags k.host (c.right-before.ensures s h) near;
    }
