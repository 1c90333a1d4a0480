use Rattle.std.proofs.Common.{◌≡◌, ◌-◌, Some, Bool, refl, ◌∙◌, ap, subst, Option}
use Rattle.machine_defs.specs.Live as live
use Rattle.session_table.specs.Slots.{value_at}
use Rattle.settle_defs.specs.Settle.{settled}
use Rattle.aaa_defs.specs.Waits.{Pending, pending_of}
use Rattle.aaa_defs.specs.Age.{aged}
use Rattle.typed_session.specs.Follows.{with_sent}
use Rattle.switch_defs.specs.Switch.{Standing, State}
use Rattle.switch_defs.specs.Session.{Another, place, rested, settle_session}
use Rattle.switch_defs.specs.Turn.{age_request, is_given_up, sent_again, set_vars}
use Rattle.host_session.specs.Settles.{Settles}
use Rattle.host_sessions.specs.declared.sessions.Sessions.{Sessions}
use Rattle.host_sessions.specs.Does.{a_second_later}
use Rattle.host_sessions.proofs.Holding.{value_number, value_sits}
use Rattle.host_sessions.proofs.Passing.{aged_may, pending_is, waits_for}
use Rattle.host_sessions.proofs.Turning.{sent_then, turned, turned_does}
use Rattle.host_sessions.proofs.sessions.Sessions.pass.Goals as goal

pub follow-requires-clause-may : goal.follow-requires-clause-may
follow-requires-clause-may c =
    let k = c.args.self.now in
    let at = c.args.at in
    let y = c.requires.may.0 in
    let s = c.requires.may.1 in
    let holds = c.requires.may.2 in
    let config = c.requires.may.3 in
    let i = c.requires.may.4 in
    let between = c.requires.may.5 in
    let v = c.in-Some.session.now in
    let here : Some v ≡ value_at at k.slots = c.in-Some.ensures.value in
    let sits = value_sits k s at y v i here in
    let number = value_number k s at y v i here in
    let waits = waits_for k s at y v.number holds between i number in
    let k1 : Sessions = record k { waits = c.age-gave_up.new.waits } in
    let s1 : State = age_request (aged (pending_of y.host.number s.waits)) y.host s in
    let may = aged_may c.args.c.now k s at y v.number c.age-gave_up.new.waits holds config i between number (c.age-gave_up.ensures.waits y.standing sits waits) in
    let gave = c.age-gave_up.ensures.gave_up y.standing sits waits ∙ ap (λ (o : Option Pending). is_given_up (aged o)) (pending_is k s y v.number holds number) in
    let P : Bool → Type 0 = λ b. Settles Another (set_vars (live.Second b) (record y.standing { end_while = y.standing.end_while - 1 })) c.second-wants.new.self c.second-wants.result c.age-gave_up.new.tray c.second-wants.new.tray in
    let settles = subst P gave (c.second-wants.ensures.settles y.standing sits) in
    let x : Standing = a_second_later y s in
    let x' : Standing = rested Another x (settled x.vars).vars in (
      record y { standing = x' },
      place y.host x' s1,
      turned Another c.args.c.now k1 at y x s1 v c.second-wants.new.self c.second-wants.result c.age-gave_up.new.tray c.second-wants.new.tray may here c.second-wants.ensures.number refl settles,
    )

pub returns-clause-does : goal.returns-clause-does
returns-clause-does c = λ y s holds config i between.
    let k = c.args.self.now in
    let at = c.args.at in
    let v = c.in-Some.session.now in
    let here : Some v ≡ value_at at k.slots = c.in-Some.ensures.value in
    let sits = value_sits k s at y v i here in
    let number = value_number k s at y v i here in
    let waits = waits_for k s at y v.number holds between i number in
    let k1 : Sessions = record k { waits = c.age-gave_up.new.waits } in
    let s1 : State = age_request (aged (pending_of y.host.number s.waits)) y.host s in
    let may = aged_may c.args.c.now k s at y v.number c.age-gave_up.new.waits holds config i between number (c.age-gave_up.ensures.waits y.standing sits waits) in
    let same = pending_is k s y v.number holds number in
    let gave = c.age-gave_up.ensures.gave_up y.standing sits waits ∙ ap (λ (o : Option Pending). is_given_up (aged o)) same in
    let P : Bool → Type 0 = λ b. Settles Another (set_vars (live.Second b) (record y.standing { end_while = y.standing.end_while - 1 })) c.second-wants.new.self c.second-wants.result c.age-gave_up.new.tray c.second-wants.new.tray in
    let settles = subst P gave (c.second-wants.ensures.settles y.standing sits) in
    let x : Standing = a_second_later y s in
    let x' : Standing = rested Another x (settled x.vars).vars in
    let d = turned_does Another y.host x s1 c.second-wants.new.self c.second-wants.result c.follow.new.self c.age-gave_up.new.tray c.second-wants.new.tray c.follow.new.tray settles
    (c.follow.ensures.does (record y { standing = x' }) (place y.host x' s1)
    (turned Another c.args.c.now k1 at y x s1 v c.second-wants.new.self c.second-wants.result c.age-gave_up.new.tray c.second-wants.new.tray may here c.second-wants.ensures.number refl settles)) in
    let pend = pending_of y.host.number s.waits in
    let again = c.age-gave_up.ensures.sent y.standing sits waits ∙ ap (λ (o : Option Pending). with_sent (sent_again (aged o) o) c.args.tray.now) same in
    record {
      holds = d.holds;
      sent = sent_then (sent_again (aged pend) pend) (settle_session Another y.host x s1).sent c.args.tray.now c.age-gave_up.new.tray c.follow.new.tray again d.sent;
    }

pub returns-clause-gone : goal.returns-clause-gone
returns-clause-gone c = λ y s holds config i between.
    let k = c.args.self.now in
    let at = c.args.at in
    let v = c.in-Some.session.now in
    let here : Some v ≡ value_at at k.slots = c.in-Some.ensures.value in
    let sits = value_sits k s at y v i here in
    let number = value_number k s at y v i here in
    let waits = waits_for k s at y v.number holds between i number in
    let gave = c.age-gave_up.ensures.gave_up y.standing sits waits ∙ ap (λ (o : Option Pending). is_given_up (aged o)) (pending_is k s y v.number holds number) in
    let P : Bool → Type 0 = λ b. Settles Another (set_vars (live.Second b) (record y.standing { end_while = y.standing.end_while - 1 })) c.second-wants.new.self c.second-wants.result c.age-gave_up.new.tray c.second-wants.new.tray in
    let settles = subst P gave (c.second-wants.ensures.settles y.standing sits) in
    c.follow.ensures.gone ∙ settles.wants.gone
