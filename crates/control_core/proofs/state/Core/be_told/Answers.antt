use Rattle.std.proofs.Common.{◌≡◌, ℕ, ◌∙◌, sym, ap}
use Rattle.std.proofs.lemmas.Option.{same_Some}
use Rattle.wire_core.specs.declared.address.Mac.{Mac}
use Rattle.aaa_client.specs.Meaning.{taking}
use Rattle.aaa_defs.specs.Answer.{Taking}
use Rattle.switch_defs.specs.Switch.{Session, Standing, State, is_vlan, port_of, session_numbered}
use Rattle.switch_defs.specs.Session.{AnAnswer, forget}
use Rattle.switch_defs.specs.Answer.{native_of, says, stands}
use Rattle.turn_defs.proofs.Parts.{beside_settle, near_told}
use Rattle.turn_defs.specs.Parts.{is_gone}
use Rattle.host_sessions.specs.Does as calls
use Rattle.control_core.proofs.Answering.{kept_at, kept_nowhere, means_so, native_here, none_is_some}
use Rattle.control_core.proofs.Lemmas.{lags_by}
use Rattle.control_core.proofs.state.Core.be_told.Goals as goal

pub unreachable-requires : goal.unreachable-requires
unreachable-requires c =
    let m = c.requires.may in
    let y : Session = m.0 in
    let u : State = forget y.host m.1 in
    kept_nowhere c.numbered.result (session_numbered c.args.taken.now.session u) y c.args.self.now.sessions u (c.numbered.ensures u m.2.holds.sessions) c.in_default.is m.2.named

pub unreachable-requires-in_default-key : goal.unreachable-requires-in_default-key
unreachable-requires-in_default-key c =
    let m = c.requires.may in
    let y : Session = m.0 in
    let u : State = forget y.host m.1 in
    let at = kept_at c.numbered.result c.in-Some.at (session_numbered c.args.taken.now.session u) y c.args.self.now.sessions u (c.numbered.ensures u m.2.holds.sessions) c.in-Some.is m.2.named in
    none_is_some (sym c.in_default-key.is ∙ c.key.ensures.key y u at)

pub said-told-requires-clause-native : goal.said-told-requires-clause-native
said-told-requires-clause-native c =
    let m = c.requires.may in
    let y : Session = m.0 in
    let s : State = m.1 in
    let u : State = forget y.host s in
    let at = kept_at c.numbered.result c.in-Some.at (session_numbered c.args.taken.now.session u) y c.args.self.now.sessions u (c.numbered.ensures u m.2.holds.sessions) c.in-Some.is m.2.named in
    let key : (c.in-Some-key.port, c.in-Some-key.mac) ≡ (y.host.port, record { 0 = y.host.address }) = same_Some _ (y.host.port, record { 0 = y.host.address }) (sym c.in-Some-key.is ∙ c.key.ensures.key y u at) in
    let port : c.in-Some-key.port ≡ y.host.port = ap (λ (p : ℕ × Mac). p.0) key in
    ap is_vlan (c.native.ensures u m.2.holds ∙ ap (λ (n : ℕ). native_of (port_of n s)) port) ∙ native_here s y m.2.sound at.there

pub be_told-closed-requires-clause-may : goal.be_told-closed-requires-clause-may
be_told-closed-requires-clause-may c =
    let m = c.requires.may in
    let y : Session = m.0 in
    let s : State = m.1 in
    let t : Taking = taking c.args.taken.now in
    let u : State = forget y.host s in
    let at = kept_at c.numbered.result c.in-Some.at (session_numbered t.session u) y c.args.self.now.sessions u (c.numbered.ensures u m.2.holds.sessions) c.in-Some.is m.2.named in
    let key : (c.in-Some-key.port, c.in-Some-key.mac) ≡ (y.host.port, record { 0 = y.host.address }) = same_Some _ (y.host.port, record { 0 = y.host.address }) (sym c.in-Some-key.is ∙ c.key.ensures.key y u at) in
    let port : c.in-Some-key.port ≡ y.host.port = ap (λ (p : ℕ × Mac). p.0) key in (
      y,
      says s t y,
      u,
      means_so c.said-told.result t _ c.native.result s y c.said-told.ensures.says c.eap_of.ensures.value (c.native.ensures u m.2.holds ∙ ap (λ (n : ℕ). native_of (port_of n s)) port),
      record { holds = m.2.holds.sessions; config = sym m.2.holds.config; here = at; ask = m.2.ask },
    )

pub returns-clause-does : goal.returns-clause-does
returns-clause-does c = λ y s m.
    let t : Taking = taking c.args.taken.now in
    let u : State = forget y.host s in
    let x : Standing = stands (says s t y) y.standing in
    let at = kept_at c.numbered.result c.in-Some.at (session_numbered t.session u) y c.args.self.now.sessions u (c.numbered.ensures u m.holds.sessions) c.in-Some.is m.named in
    let key : (c.in-Some-key.port, c.in-Some-key.mac) ≡ (y.host.port, record { 0 = y.host.address }) = same_Some _ (y.host.port, record { 0 = y.host.address }) (sym c.in-Some-key.is ∙ c.key.ensures.key y u at) in
    let port : c.in-Some-key.port ≡ y.host.port = ap (λ (p : ℕ × Mac). p.0) key in
    let address : c.in-Some-key.mac.0 ≡ y.host.address = ap (λ (p : ℕ × Mac). p.1.0) key in
    let means = means_so c.said-told.result t _ c.native.result s y c.said-told.ensures.says c.eap_of.ensures.value (c.native.ensures u m.holds ∙ ap (λ (n : ℕ). native_of (port_of n s)) port) in
    let may : calls.MayTurn c.args.self.now.config c.args.self.now.sessions c.in-Some.at y x u = record { holds = m.holds.sessions; config = sym m.holds.config; here = at; ask = m.ask } in
    let d = c.be_told-closed.ensures.does y (says s t y) u means may in
    let gone = c.be_told-closed.ensures.gone y (says s t y) u means may in
    let lags = lags_by c.be_told-closed.result (is_gone x) c.in-Some-key.port y.host.port c.args.self.now c.be_told-closed.new.self u _ m.holds.config m.holds.clock m.holds.ports m.holds.kept port gone (beside_settle AnAnswer y.host x u) d.holds in
    record {
      holds = c.follow.ensures.holds _ lags;
      sent = d.sent;
      told = c.follow.ensures.told s _ y.host lags (record { on = sym port; whose = sym address }) (c.right-before.ensures u m.holds) (near_told AnAnswer y x s m.sound at.there m.vlan);
    }
