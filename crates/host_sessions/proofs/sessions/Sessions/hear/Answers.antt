use Rattle.std.proofs.Common.{◌≡◌, Some}
use Rattle.session_table.specs.Slots.{value_at}
use Rattle.switch_defs.specs.Switch.{Standing}
use Rattle.switch_defs.specs.Session.{place, rested}
use Rattle.switch_defs.specs.Turn.{cause_of, set_vars}
use Rattle.settle_defs.specs.Settle.{settled}
use Rattle.host_frames.specs.Heard.{event_of}
use Rattle.host_sessions.proofs.Holding.{value_sits}
use Rattle.host_sessions.proofs.Times.{set_times}
use Rattle.host_sessions.proofs.Turning.{turned, turned_does}
use Rattle.host_sessions.proofs.sessions.Sessions.hear.Goals as goal

pub follow-requires-clause-may : goal.follow-requires-clause-may
follow-requires-clause-may c =
    let k = c.args.self.now in
    let at = c.args.at in
    let e = event_of c.args.said in
    let r = c.requires.may in
    let y = r.0 in
    let s = r.1 in
    let may = r.2 in
    let x : Standing = set_vars e y.standing in
    let v = c.in-Some.session.now in
    let here : Some v ≡ value_at at k.slots = c.in-Some.ensures.value in
    let settles = c.hear-wants.ensures.settles y.standing (value_sits k s at y v may.here here) in
    let x' : Standing = rested (cause_of e) x (settled x.vars).vars in (
      record y { standing = x' },
      place y.host x' s,
      turned (cause_of e) c.args.c.now k at y x s v c.hear-wants.new.self c.hear-wants.result c.args.tray.now c.hear-wants.new.tray may here c.hear-wants.ensures.number (set_times e y.standing.vars) settles,
    )

pub returns-clause-does : goal.returns-clause-does
returns-clause-does c = λ y s may.
    let k = c.args.self.now in
    let at = c.args.at in
    let e = event_of c.args.said in
    let x : Standing = set_vars e y.standing in
    let v = c.in-Some.session.now in
    let here : Some v ≡ value_at at k.slots = c.in-Some.ensures.value in
    let settles = c.hear-wants.ensures.settles y.standing (value_sits k s at y v may.here here) in
    let x' : Standing = rested (cause_of e) x (settled x.vars).vars in
    turned_does (cause_of e) y.host x s c.hear-wants.new.self c.hear-wants.result c.follow.new.self c.args.tray.now c.hear-wants.new.tray c.follow.new.tray settles
    (c.follow.ensures.does (record y { standing = x' }) (place y.host x' s)
    (turned (cause_of e) c.args.c.now k at y x s v c.hear-wants.new.self c.hear-wants.result c.args.tray.now c.hear-wants.new.tray may here c.hear-wants.ensures.number (set_times e y.standing.vars) settles))
