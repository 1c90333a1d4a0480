use Rattle.std.proofs.Common.{◌≡◌, ℕ, ◌+◌, ◌∙◌, List, Option, Some, refl, sym, ap}
use Rattle.std.specs.Option.{option_map}
use Rattle.std.proofs.lemmas.Option.{same_Some}
use Rattle.wire_core.specs.declared.address.Mac.{Mac}
use Rattle.session_table.specs.Slots.{key_of, value_at}
use Rattle.aaa_defs.specs.Request.{authenticator}
use Rattle.aaa_defs.specs.Waits.{Pending, Waits, pending_of}
use Rattle.aaa_defs.proofs.Waiting.{asked-found}
use Rattle.switch_event.specs.Config.{Config}
use Rattle.typed_session.specs.Follows.{with_sent}
use Rattle.switch_defs.specs.Switch.{Standing, own_address, port_address}
use Rattle.switch_defs.specs.Session.{new_request, question}
use Rattle.host_sessions.specs.Follows.{sent_of_pending}
use Rattle.host_sessions.proofs.Asking.{asks_alike, made_alike}
use Rattle.host_sessions.proofs.Holding.{value_number, value_sits}
use Rattle.host_sessions.proofs.sessions.Sessions.ask.Goals as goal

own_alike : (b d : List ℕ) (n m : ℕ) → b ≡ d → n ≡ m → port_address b n ≡ port_address d m
own_alike b d n m e f = rw (e, f) refl

auth_alike : (a b : List ℕ) (n m : ℕ) → a ≡ b → n ≡ m → authenticator a n ≡ authenticator b m
auth_alike a b n m e f = rw (e, f) refl

pub returns-clause-does : goal.returns-clause-does
returns-clause-does c = λ y s has may.
    let k = c.args.self.now in
    let at = c.args.at in
    let t = c.args.tray.now in
    let x : Standing = y.standing in
    let v = c.in-Some-Some.session.now in
    let here : Some v ≡ value_at at k.slots = c.in-Some-Some.ensures' in
    let number = value_number k s at y v has.here here in
    let sits = value_sits k s at y v has.here here in
    let key : (c.in-Some-Some.port, c.in-Some-Some.mac) ≡ key_of has.here.entry =
    same_Some _ (key_of has.here.entry) (c.in-Some-Some.ensures ∙ ap (option_map key_of) has.here.here) in
    let port : c.in-Some-Some.port ≡ y.host.port = ap (λ (p : ℕ × Mac). p.0) key ∙ has.here.is.port in
    let mac : c.in-Some-Some.mac.0 ≡ y.host.address = ap (λ (p : ℕ × Mac). p.1.0) key ∙ has.here.is.address in
    let bridge : c.c.inside.bridge.0 ≡ s.config.bridge = ap (λ (d : Config). d.bridge) (c.c.view_is ∙ sym has.config) in
    let seed : c.c.inside.seed ≡ s.config.seed = ap (λ (d : Config). d.seed) (c.c.view_is ∙ sym has.config) in
    let own : c.port_address.result.0 ≡ own_address s y.host.port =
    c.port_address.ensures ∙ own_alike c.c.inside.bridge.0 s.config.bridge c.in-Some-Some.port y.host.port bridge port in
    let asks = c.question-question.ensures.question x sits may.idle
    ∙ asks_alike c.in-Some-Some.port y.host.port c.port_address.result.0 (own_address s y.host.port) c.in-Some-Some.mac.0 y.host.address x.vars.identity.items x.state x.vars.eap_resp_data.items port own mac in
    let auth = c.request_authenticator-auth.ensures ∙ auth_alike c.c.inside.seed s.config.seed k.asked s.asked seed has.holds.asked in
    let p : Pending = new_request s y.host x in
    let waits = c.ask.ensures.waits
    ∙ made_alike c.args.c.now s.config _ (question s y.host x) v.number y.host.number k.waits s.waits c.request_authenticator-auth.result (authenticator s.config.seed s.asked) (sym has.config) asks number has.holds.waits auth in
    record {
      holds = record { table = has.holds.table; sessions = has.holds.sessions; waits = waits; asked = ap (λ (n : ℕ). n + 1) has.holds.asked; next = has.holds.next };
      sent = c.send.ensures.sent
          ∙ ap (λ (n : ℕ). with_sent (sent_of_pending (pending_of n c.ask.new.self)) t) number
          ∙ ap (λ (w : Waits). with_sent (sent_of_pending (pending_of y.host.number w)) t) waits
          ∙ ap (λ (o : Option Pending). with_sent (sent_of_pending o) t) (asked-found p s.waits may.free);
    }
