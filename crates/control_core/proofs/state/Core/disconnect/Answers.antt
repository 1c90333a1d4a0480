use Rattle.std.proofs.Common.{true}
use Rattle.switch_defs.specs.Switch.{State}
use Rattle.switch_defs.specs.Session.{close}
use Rattle.switch_defs.specs.Sound.{IsAtRest}
use Rattle.switch_defs.proofs.Lists.{of_each}
use Rattle.turn_defs.proofs.Parts.{beside_close, near_close}
use Rattle.control_core.proofs.Acting.{found_at, lags, of_key}
use Rattle.control_core.proofs.state.Core.disconnect.Goals as goal

pub returns-clause-does : goal.returns-clause-does
returns-clause-does c = λ s y stands numbered.
    let core = c.args.self.now in
    let t : State = close y.host s in
    let here = found_at core.sessions s c.in-Some.at y _ numbered (c.in-Some.ensures s stands.holds.sessions) in
    let host = of_key y.host (c.in-Some-key.port, c.in-Some-key.mac) (c.in-Some-key.ensures.key y s here) in
    let rest : IsAtRest s.waits y = of_each (IsAtRest s.waits) stands.sound.rests.sessions here.there in
    let did = c.disconnect.ensures.does y s stands.holds.sessions here rest.goes_on in
    let lag = lags true y.host c.in-Some-key.port c.in-Some-key.mac.0 core c.disconnect.new.self s t host stands.holds (beside_close y.host s) did.holds in
    record {
      holds = c.follow.ensures.holds t lag;
      sent = did.sent;
      told = c.follow.ensures.told s t y.host lag host (c.right-before.ensures s stands.holds) (near_close y s stands.sound here.there);
    }
