use Rattle.std.proofs.Common.{◌≡◌, ℕ, ◌-◌, ◌∙◌, Bool, true, false, not, ◌&&◌, [], refl, sym, ap}
use Rattle.std.specs.Prelude.{if◌then◌else◌}
use Rattle.machine_vars.specs.declared.vars.Vars.{Vars}
use Rattle.settle_defs.specs.Settle.{settled}
use Rattle.switch_defs.specs.Switch.{Standing}
use Rattle.host_session.specs.Settles.{later}
use Rattle.host_session.proofs.session.Session.idle.Goals as goal

-- the marks of a host that is Authorized
ends : (b : Bool) (n m : ℕ) → b ≡ true → n ≡ m → n ≡ (if b then m else 0)
ends true n m on e = e
ends false n m on e = cc

unmarked : (b was : Bool) → b ≡ true → false ≡ (not b && was)
unmarked true was on = refl
unmarked false was on = cc

pub returns-clause-idles : goal.returns-clause-idles
returns-clause-idles c = λ done x s.
    let i = c.idle.ensures.idles c.if-not-idle.false in
    let y : Standing = later x in
    let v : Vars = (settled y.vars).vars in
    let l = i.after v (i.follows (record { items = []; sessions = 0 }) x.vars s.stands).0 in
    record {
      settles = λ tray. record {
        sits = record {
          stands = l.cleared;
          vlan = s.vlan;
          state = s.state;
          end_while = ends v.auth_port_status _ _ l.status (c.saturating_sub-self.ensures ∙ ap (λ (n : ℕ). n - 1) s.end_while);
          restricted = unmarked v.auth_port_status x.restricted l.status;
        };
        sent = (i.follows tray x.vars s.stands).1;
        wants = record { ask = sym l.ask; abort = sym l.abort; gone = sym l.gone };
      };
      state = (i.before x.vars s.stands).state;
      before = (i.before x.vars s.stands).status;
      after = l.status;
    }
