use Rattle.std.proofs.Common.{◌≡◌, ℕ, ◌∙◌, None, false, sym, ap, subst}
use Rattle.settle_defs.specs.Settle.{settled}
use Rattle.switch_event.specs.Config.{Config}
use Rattle.switch_defs.specs.Switch.{Host, Standing, session_at}
use Rattle.switch_defs.specs.Session.{Another, place, rested}
use Rattle.switch_defs.specs.Turn.{fresh_standing, is_full, opened, with_session}
use Rattle.host_session.specs.Settles.{Settles}
use Rattle.host_sessions.proofs.Beginning.{begins_as, is_room, none_for, opened_may}
use Rattle.host_sessions.proofs.Turning.{turned_does}
use Rattle.host_sessions.proofs.sessions.Sessions.open_session.Goals as goal

pub insert-requires-clause-new : goal.insert-requires-clause-new
insert-requires-clause-new c =
    let k = c.args.self.now in
    let m = c.requires.may in
    let P : ℕ → Type 0 = λ n. session_at n c.args.mac.0 m.0 ≡ None in
    none_for k m.0 c.args.port c.args.mac.0 m.2 (subst P m.4.number m.5.new)

pub unreachable-requires : goal.unreachable-requires
unreachable-requires c =
    let k = c.args.self.now in
    let m = c.requires.may in
    let P : ℕ → Type 0 = λ n. is_full n m.0 ≡ false in
    is_room k m.0 c.args.port m.2 (subst P m.4.number m.5.room) c.in_default.ensures.full

pub follow-requires-clause-may : goal.follow-requires-clause-may
follow-requires-clause-may c =
    let k = c.args.self.now in
    let from = c.args.mac.0 in
    let m = c.requires.may in
    let s = m.0 in
    let q = m.1 in
    let config = m.3 in
    let h : Host = opened s q from in
    let x : Standing = fresh_standing s q from in
    let x' : Standing = rested Another x (settled x.vars).vars in
    let times = ap (λ (d : Config). d.times) (config ∙ sym c.c.view_is) in
    let P : Standing → Type 0 = λ z. Settles Another z c.open-session.result.0 c.open-session.result.1 c.args.tray.now c.open-session.new.tray in
    let settles = subst P (begins_as s q c.args.port c.args.own.0 from c.args.native c.c.inside.times m.4 times) c.open-session.ensures.settles in (
      record { host = h; standing = x' },
      place h x' (with_session h x s),
      opened_may c.args.c.now k s q c.in-Ok.at c.args.port from c.open-session.result.0 c.open-session.result.1 c.args.tray.now c.open-session.new.tray c.insert.new.self
          m.2 config m.4.number m.5 c.open-session.ensures.number settles c.in-Ok.ensures.held c.in-Ok.ensures.table,
    )

pub returns-clause-does : goal.returns-clause-does
returns-clause-does c = λ s q holds config p may.
    let k = c.args.self.now in
    let from = c.args.mac.0 in
    let h : Host = opened s q from in
    let x : Standing = fresh_standing s q from in
    let x' : Standing = rested Another x (settled x.vars).vars in
    let times = ap (λ (d : Config). d.times) (config ∙ sym c.c.view_is) in
    let P : Standing → Type 0 = λ z. Settles Another z c.open-session.result.0 c.open-session.result.1 c.args.tray.now c.open-session.new.tray in
    let settles = subst P (begins_as s q c.args.port c.args.own.0 from c.args.native c.c.inside.times p times) c.open-session.ensures.settles in
    turned_does Another h x (with_session h x s) c.open-session.result.0 c.open-session.result.1 c.follow.new.self c.args.tray.now c.open-session.new.tray c.follow.new.tray settles
    (c.follow.ensures.does (record { host = h; standing = x' }) (place h x' (with_session h x s))
    (opened_may c.args.c.now k s q c.in-Ok.at c.args.port from c.open-session.result.0 c.open-session.result.1 c.args.tray.now c.open-session.new.tray c.insert.new.self
    holds config p.number may c.open-session.ensures.number settles c.in-Ok.ensures.held c.in-Ok.ensures.table))
