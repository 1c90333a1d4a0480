use Rattle.std.proofs.Common.{◌≡◌, ◌∙◌, Some, ap, subst, sym}
use Rattle.switch_event.specs.Config.{Config}
use Rattle.host_frames.specs.Heard.{case_of, event_of}
use Rattle.switch_ports.specs.Ports.{shown}
use Rattle.switch_defs.specs.Switch.{Port, own_address, port_address, port_of}
use Rattle.switch_defs.specs.Turn.{control_case, frame_case}
use Rattle.switch_defs.specs.Laws.{MayFrame}
use Rattle.switch_defs.proofs.Soundness.{frames_may_settle}
use Rattle.control_core.specs.Does.{IsHere}
use Rattle.control_core.specs.Hearing.{MayHear}
use Rattle.control_core.proofs.Hearing.{frame_dropped, here_by, own_by, port_found, turns_as}
use Rattle.control_core.proofs.state.Core.do_frame.Goals as goal

pub hear-requires-clause-may : goal.hear-requires-clause-may
hear-requires-clause-may c =
    let s = c.requires.may.0 in
    let m = c.requires.may.1 in
    let h = m.stands.holds in
    let q : Port = c.in-Some.port.now in
    let found : port_of c.args.n s ≡ Some q = port_found s c.args.n c.args.self.now.ports (Some q) h.ports (sym (ap shown c.in-Some.is) ∙ c.port.ensures) in
    let own : own_address s q.conf.port ≡ c.own.result.0 = own_by s c.args.n q found ∙ ap (λ (g : Config). port_address g.bridge c.args.n) (sym h.config) ∙ sym c.own.ensures in
    let case : frame_case s c.args.octets.now (Some q) ≡ control_case s q c.in-Ok.heard.from.0 (event_of c.in-Ok.heard.said) =
    c.read.ensures.case s q own (sym c.link-link.ensures) ∙ ap (case_of s q) c.in-Ok.is in (
      s,
      q,
      here_by s c.args.octets.now c.args.n q c.in-Ok.heard.from.0 (event_of c.in-Ok.heard.said) _ _ found case (sym c.conf-conf.ensures) (sym c.control-control.ensures),
      record { turn = m; settles = subst (MayFrame s) (ap (frame_case s c.args.octets.now) found ∙ case) (frames_may_settle c.args.self.now.made s c.args.n c.args.octets.now m.stands.sound) },
    )

pub returns-in-Err-clause-turns : goal.returns-in-Err-clause-turns
returns-in-Err-clause-turns c = λ s m.
    let h = m.stands.holds in
    let q : Port = c.in-Some.port.now in
    let found : port_of c.args.n s ≡ Some q = port_found s c.args.n c.args.self.now.ports (Some q) h.ports (sym (ap shown c.in-Some.is) ∙ c.port.ensures) in
    let own : own_address s q.conf.port ≡ c.own.result.0 = own_by s c.args.n q found ∙ ap (λ (g : Config). port_address g.bridge c.args.n) (sym h.config) ∙ sym c.own.ensures in
    turns_as (ap (frame_case s c.args.octets.now) found ∙ c.read.ensures.case s q own (sym c.link-link.ensures) ∙ ap (case_of s q) c.in-Err.is)
    (frame_dropped s c.in-Err.drop _ c.args.tray.now c.args.items.now.items h)

pub returns-in-Ok-clause-turns : goal.returns-in-Ok-clause-turns
returns-in-Ok-clause-turns c = λ s m.
    let h = m.stands.holds in
    let q : Port = c.in-Some.port.now in
    let found : port_of c.args.n s ≡ Some q = port_found s c.args.n c.args.self.now.ports (Some q) h.ports (sym (ap shown c.in-Some.is) ∙ c.port.ensures) in
    let own : own_address s q.conf.port ≡ c.own.result.0 = own_by s c.args.n q found ∙ ap (λ (g : Config). port_address g.bridge c.args.n) (sym h.config) ∙ sym c.own.ensures in
    let case : frame_case s c.args.octets.now (Some q) ≡ control_case s q c.in-Ok.heard.from.0 (event_of c.in-Ok.heard.said) =
    c.read.ensures.case s q own (sym c.link-link.ensures) ∙ ap (case_of s q) c.in-Ok.is in
    let all = ap (frame_case s c.args.octets.now) found ∙ case in
    let here : IsHere c.conf-conf.result c.control-control.result q s = here_by s c.args.octets.now c.args.n q c.in-Ok.heard.from.0 (event_of c.in-Ok.heard.said) _ _ found case (sym c.conf-conf.ensures) (sym c.control-control.ensures) in
    let may : MayHear (control_case s q c.in-Ok.heard.from.0 (event_of c.in-Ok.heard.said)) c.args.self.now s =
    record { turn = m; settles = subst (MayFrame s) all (frames_may_settle c.args.self.now.made s c.args.n c.args.octets.now m.stands.sound) } in
    turns_as all (c.hear.ensures.turns s q here may)
