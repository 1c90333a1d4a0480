-- The session at the place is closed, and its port armed.
use Rattle.std.proofs.Common.{◌≡◌, ◌∙◌, true, refl, sym}
use Rattle.std.specs.Cmp.{unsigned_Decides}
use Rattle.switch_defs.specs.Switch.{on_port}
use Rattle.switch_defs.specs.Session.{close}
use Rattle.host_sessions.specs.Finds.{IsAt}
use Rattle.turn_defs.proofs.Parts.{beside_close}
use Rattle.control_core.specs.Stands.{Holds, Lags}
use Rattle.control_core.specs.Does.{IsOfHost, TellsOn}
use Rattle.control_core.proofs.Lemmas.{at_place, if_on, key_is, lags_by, near_end}
use Rattle.control_core.proofs.state.Core.close_on.Goals as goal

pub returns-clause-holds : goal.returns-clause-holds
returns-clause-holds c = λ t y m.
    let at : IsAt c.in-Some.at y c.args.self.now.sessions t = at_place c.args.n c.in-Some.at y c.args.self.now t (c.in-Some.ensures t m.holds.sessions) m.next in
    let key = key_is (c.in-Some-key.its_port, c.in-Some-key.mac) y.host (c.in-Some-key.ensures.key y t at) in
    let port : y.host.port ≡ c.args.port = sym key.0 ∙ c.if-its_port-port.false in
    let on : on_port c.args.port y ≡ true = (unsigned_Decides y.host.port c.args.port).1 port in
    let lags : Lags true c.args.port (record c.args.self.now { sessions = c.close.new.self }) (close y.host t) =
    lags_by true true c.args.port y.host.port c.args.self.now c.close.new.self t (close y.host t) m.holds.config m.holds.clock m.holds.ports m.holds.kept (sym port) refl (beside_close y.host t) (c.close.ensures.holds y t m.holds.sessions at) in
    if_on (λ u. Holds c.follow.new.self u) (on_port c.args.port y) y t on (c.follow.ensures.holds (close y.host t) lags)

pub returns-clause-told : goal.returns-clause-told
returns-clause-told c = λ t y m.
    let at : IsAt c.in-Some.at y c.args.self.now.sessions t = at_place c.args.n c.in-Some.at y c.args.self.now t (c.in-Some.ensures t m.holds.sessions) m.next in
    let key = key_is (c.in-Some-key.its_port, c.in-Some-key.mac) y.host (c.in-Some-key.ensures.key y t at) in
    let port : y.host.port ≡ c.args.port = sym key.0 ∙ c.if-its_port-port.false in
    let on : on_port c.args.port y ≡ true = (unsigned_Decides y.host.port c.args.port).1 port in
    let lags : Lags true c.args.port (record c.args.self.now { sessions = c.close.new.self }) (close y.host t) =
    lags_by true true c.args.port y.host.port c.args.self.now c.close.new.self t (close y.host t) m.holds.config m.holds.clock m.holds.ports m.holds.kept (sym port) refl (beside_close y.host t) (c.close.ensures.holds y t m.holds.sessions at) in
    let h : IsOfHost y.host c.args.port c.in-Some-key.mac.0 = record { on = port; whose = sym key.1 } in
    if_on (λ u. TellsOn t u c.args.items.now.items c.follow.new.items.items) (on_port c.args.port y) y t on
    (c.follow.ensures.told t (close y.host t) y.host lags h (c.right-before.ensures t m.holds) (near_end y t m.speaks))
