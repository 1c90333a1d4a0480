use Rattle.std.proofs.Common.{ℕ, ◌∙◌, ap, sym, subst}
use Rattle.machine_defs.specs.Live as live
use Rattle.machine_defs.specs.Live.{set}
use Rattle.settle_defs.specs.Settle.{settled}
use Rattle.aaa_defs.specs.Said.{Kept}
use Rattle.typed_session.specs.declared.host.Host.{Host}
use Rattle.typed_session.specs.Stands.{Stands}
use Rattle.typed_session.specs.Follows.{EndsIn}
use Rattle.server_words.specs.Words.{renewed}
use Rattle.switch_defs.specs.Switch.{Standing}
use Rattle.switch_defs.specs.Answer.{stands}
use Rattle.host_session.specs.Settles.{at_rest}
use Rattle.host_session.proofs.Marks.{told_mark}
use Rattle.host_session.proofs.session.Session.be_told.Goals as goal

pub returns-clause-settles : goal.returns-clause-settles
returns-clause-settles c = λ x meant s m.
    let y : Standing = at_rest (stands meant x) in
    let P : live.Event → Type 0 = λ e. EndsIn (settled (set e x.vars)) c.on_server.new.self c.args.tray.now c.on_server.new.tray in
    let f = subst P m.word (c.on_server.ensures.follows x.vars s.stands) in
    let S : Host → Type 0 = λ h. Stands h y.vars in
    let l = c.rest-wants.ensures.left y (record {
      stands = subst S (sym c.keep.ensures.host) f.0;
      vlan = c.keep.ensures.vlan ∙ ap (λ (n : ℕ). renewed c.args.told.now.vlan n) s.vlan ∙ ap (λ (k : Kept). k.vlan) m.kept;
      state = c.keep.ensures.state ∙ ap (λ (k : Kept). k.state) m.kept;
      end_while = c.keep.ensures.end_while ∙ ap (λ (n : ℕ). renewed c.args.told.now.end_while n) s.end_while ∙ ap (λ (k : Kept). k.end_while) m.kept;
      restricted = c.keep.ensures.restricted ∙ s.restricted;
    }) in
    record {
      sits = record {
        stands = l.sits.stands;
        vlan = l.sits.vlan;
        state = l.sits.state;
        end_while = l.sits.end_while;
        restricted = c.rejected-self.ensures ∙ told_mark c.held.result c.rest-wants.new.self.restricted x.restricted (live.cleared y.vars) (c.held.ensures.state _ l.sits.stands) l.sits.restricted;
      };
      sent = f.1;
      wants = l.wants;
    }
