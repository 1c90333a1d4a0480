use Rattle.std.proofs.Common.{◌≡◌, Some, sym, subst}
use Rattle.machine_vars.specs.declared.control.Times.{Times}
use Rattle.session_table.specs.Slots.{value_at}
use Rattle.settle_defs.specs.Settle.{settled}
use Rattle.server_words.specs.Words.{Means}
use Rattle.switch_defs.specs.Switch.{Standing}
use Rattle.switch_defs.specs.Session.{AnAnswer, place, rested}
use Rattle.switch_defs.specs.Answer.{event_of, kept_of, stands}
use Rattle.host_sessions.proofs.Holding.{value_sits}
use Rattle.host_sessions.proofs.Times.{set_times}
use Rattle.host_sessions.proofs.Turning.{turned, turned_does}
use Rattle.host_sessions.proofs.sessions.Sessions.be_told.Goals as goal

pub follow-requires-clause-may : goal.follow-requires-clause-may
follow-requires-clause-may c =
    let k = c.args.self.now in
    let at = c.args.at in
    let y = c.requires.may.0 in
    let meant = c.requires.may.1 in
    let s = c.requires.may.2 in
    let means = c.requires.may.3 in
    let may = c.requires.may.4 in
    let x : Standing = stands meant y.standing in
    let v = c.in-Some.session.now in
    let here : Some v ≡ value_at at k.slots = c.in-Some.ensures.value in
    let P : Times → Type 0 = λ t. Means c.args.told.now meant t y.standing.vars.current_id (kept_of y.standing) in
    let settles = c.be_told-wants.ensures.settles y.standing meant (value_sits k s at y v may.here here) (subst P (sym may.here.is.timed) means) in
    let x' : Standing = rested AnAnswer x (settled x.vars).vars in (
      record y { standing = x' },
      place y.host x' s,
      turned AnAnswer c.args.c.now k at y x s v c.be_told-wants.new.self c.be_told-wants.result c.args.tray.now c.be_told-wants.new.tray may here c.be_told-wants.ensures.number (set_times (event_of meant.word) y.standing.vars) settles,
    )

pub returns-clause-does : goal.returns-clause-does
returns-clause-does c = λ y meant s means may.
    let k = c.args.self.now in
    let at = c.args.at in
    let x : Standing = stands meant y.standing in
    let v = c.in-Some.session.now in
    let here : Some v ≡ value_at at k.slots = c.in-Some.ensures.value in
    let P : Times → Type 0 = λ t. Means c.args.told.now meant t y.standing.vars.current_id (kept_of y.standing) in
    let settles = c.be_told-wants.ensures.settles y.standing meant (value_sits k s at y v may.here here) (subst P (sym may.here.is.timed) means) in
    let x' : Standing = rested AnAnswer x (settled x.vars).vars in
    turned_does AnAnswer y.host x s c.be_told-wants.new.self c.be_told-wants.result c.follow.new.self c.args.tray.now c.be_told-wants.new.tray c.follow.new.tray settles
    (c.follow.ensures.does (record y { standing = x' }) (place y.host x' s)
    (turned AnAnswer c.args.c.now k at y x s v c.be_told-wants.new.self c.be_told-wants.result c.args.tray.now c.be_told-wants.new.tray may here c.be_told-wants.ensures.number (set_times (event_of meant.word) y.standing.vars) settles))
