use Rattle.std.proofs.Common.{Option, sym, subst}
use Rattle.dynauth_defs.specs.declared.Action.{Action}
use Rattle.dynauth_defs.specs.declared.Action.TheVariants.{Change}
use Rattle.switch_defs.specs.Switch.{Session}
use Rattle.switch_defs.specs.Dynamic as dynamic
use Rattle.control_core.specs.Does.{Does}
use Rattle.control_core.specs.Acts.{MayAct}
use Rattle.control_core.proofs.Replying.{nothing_sent}
use Rattle.control_core.proofs.state.Core.act.Goals as goal

pub returns-in-Change-clause-does : goal.returns-in-Change-clause-does
returns-in-Change-clause-does c = λ s stands may.
    let number = c.in-Change.number in
    let vlan = c.in-Change.vlan in
    let timeout = c.in-Change.timeout in
    let from = c.args.tray.now in
    let before = c.args.items.now.items in
    let after = c.change.new.items.items in
    let a : Action = Change number vlan timeout in
    let its : MayAct a s = subst (λ (b : Action). MayAct b s) c.in-Change.is may in
    let y : Session = its.session.0 in
    let P : Action → Type 0 = λ b. Does s (dynamic.act b s) c.change.new.self from from before after in
    let Q : Option Session → Type 0 =
    λ o. Does s (dynamic.changed vlan timeout o s) c.change.new.self from from before after in
    subst P (sym c.in-Change.is) (subst Q (sym its.session.1) (record {
      holds = c.change.ensures.holds s y stands its.session.1;
      sent = nothing_sent from;
      told = c.change.ensures.told s y stands its.session.1;
    }))
