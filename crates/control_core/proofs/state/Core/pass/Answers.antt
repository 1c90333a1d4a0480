use Rattle.std.proofs.Common.{◌≡◌, ℕ, map, Option, Some, sym, ap, subst, ◌∙◌}
use Rattle.host_session.specs.Sits.{right_in}
use Rattle.host_sessions.specs.Finds.{FindsAt, IsAt}
use Rattle.table_defs.specs.Change.{item_of}
use Rattle.switch_defs.specs.Switch.{Session, State, hosts}
use Rattle.switch_defs.specs.Decide.{authorised}
use Rattle.switch_defs.specs.Sound.{AreApart, HasVlan}
use Rattle.switch_defs.specs.Turn.{second_of}
use Rattle.switch_defs.proofs.Lists.{of_each}
use Rattle.turn_defs.proofs.Parts.{tells_noted}
use Rattle.turn_defs.proofs.Walks.{near_second}
use Rattle.turn_defs.specs.Walks.{is_over}
use Rattle.control_core.specs.Stands.{Holds}
use Rattle.control_core.proofs.Passing.{may_tell, passes_on}
use Rattle.control_core.proofs.Standing.{goes_on, renewed, unauthorised}
use Rattle.control_core.proofs.Walking.{both_of, lags, right_after}
use Rattle.control_core.proofs.state.Core.pass.Goals as goal

pub returns-clause-does : goal.returns-clause-does
returns-clause-does c y s h next may =
    let n : ℕ = c.args.n in
    let t : State = (second_of y s).state in
    let at : IsAt c.in-Some.at y c.args.self.now.sessions s = subst (λ (o : Option Session). FindsAt (Some c.in-Some.at) o c.args.self.now.sessions s) next.at (c.in-Some.ensures s h.sessions) in
    let key = both_of (c.in-Some-key.ensures.key y s at) in
    let port : c.in-Some-key.port ≡ y.host.port = key.0 in
    let mac : c.in-Some-key.mac.0 ≡ y.host.address = ap (λ m. m.0) key.1 in
    let does = c.second-closed.ensures.does y s h.sessions (sym h.config) at may.between in
    let gone : c.second-closed.result ≡ is_over y s = c.second-closed.ensures.gone y s h.sessions (sym h.config) at may.between in
    let holds : Holds c.arm_if.new.self t = c.arm_if.ensures.holds t (lags c.second-closed.result c.in-Some-key.port c.args.self.now c.second-closed.new.self y s h port gone does.holds) in
    let apart : AreApart (hosts t) = (passes_on 0 y s next.there may).between.hosts.apart in
    let before : right_in c.right_at-before.result ≡ authorised s y.host.port y.host.address = c.right_at-before.ensures s y h may.between.hosts.apart next (sym port) in
    let after : right_in c.right_unless-after.result ≡ authorised t y.host.port y.host.address =
    right_after c.second-closed.result y s (right_in c.right_unless-after.result) gone c.right_unless-after.ensures.none (unauthorised y s)
    (λ k. c.right_unless-after.ensures.right t (renewed y s) holds apart (goes_on n y s may.between.hosts.apart next (sym gone ∙ k)) (sym port) k) in
    record {
      holds = holds;
      sent = does.sent;
      told = tells_noted y.host s t (right_in c.right_at-before.result) (right_in c.right_unless-after.result) (map item_of c.args.items.now.items) (map item_of c.note.new.items.items)
          (c.note.ensures.notes y.host (record { on = sym port; whose = sym mac })) before after (near_second y s (of_each HasVlan may.vlans next.there) (may_tell y s next.there may));
    }
