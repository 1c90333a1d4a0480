use Rattle.std.proofs.Common.{false}
use Rattle.switch_defs.specs.Switch.{Standing, State}
use Rattle.switch_defs.specs.Session.{place}
use Rattle.switch_defs.specs.Dynamic.{times_or, vlan_or}
use Rattle.switch_defs.specs.Sound.{HasVlan}
use Rattle.switch_defs.proofs.Fitting.{changed_vlan}
use Rattle.switch_defs.proofs.Lists.{of_each}
use Rattle.turn_defs.proofs.Parts.{beside_place, near_place}
use Rattle.control_core.proofs.Acting.{found_at, lags, of_key}
use Rattle.control_core.proofs.state.Core.change.Goals as goal

pub returns-clause-holds : goal.returns-clause-holds
returns-clause-holds c = λ s y stands numbered.
    let core = c.args.self.now in
    let x : Standing = times_or c.args.timeout s (vlan_or c.args.vlan y.standing) in
    let t : State = place y.host x s in
    let here = found_at core.sessions s c.in-Some.at y _ numbered (c.in-Some.ensures s stands.holds.sessions) in
    let host = of_key y.host (c.in-Some-key.port, c.in-Some-key.mac) (c.in-Some-key.ensures.key y s here) in
    c.follow.ensures.holds t
    (lags false y.host c.in-Some-key.port c.in-Some-key.mac.0 core c.change.new.self s t host stands.holds (beside_place y.host x s) (c.change.ensures.holds y s stands.holds.sessions here))

pub returns-clause-told : goal.returns-clause-told
returns-clause-told c = λ s y stands numbered.
    let core = c.args.self.now in
    let x : Standing = times_or c.args.timeout s (vlan_or c.args.vlan y.standing) in
    let t : State = place y.host x s in
    let here = found_at core.sessions s c.in-Some.at y _ numbered (c.in-Some.ensures s stands.holds.sessions) in
    let host = of_key y.host (c.in-Some-key.port, c.in-Some-key.mac) (c.in-Some-key.ensures.key y s here) in
    let vlan = changed_vlan c.args.vlan c.args.timeout s y c.requires.vlan (of_each HasVlan stands.sound.vlans here.there) in
    c.follow.ensures.told s t y.host
    (lags false y.host c.in-Some-key.port c.in-Some-key.mac.0 core c.change.new.self s t host stands.holds (beside_place y.host x s) (c.change.ensures.holds y s stands.holds.sessions here))
    host (c.right-before.ensures s stands.holds) (near_place y x s stands.sound here.there vlan)
