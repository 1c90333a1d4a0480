-- A second in which nothing falls due for a session.
use Rattle.std.proofs.Common.{◌≡◌, ℕ, ◌∙◌, false, Option, Some, refl, sym, map, inl}
use Rattle.table_defs.specs.Change.{item_of}
use Rattle.switch_defs.specs.Switch.{Session, State, hosts}
use Rattle.switch_defs.specs.Decide.{Right, authorised, right_by}
use Rattle.switch_defs.specs.Sound.{AreApart, HasVlan}
use Rattle.switch_defs.specs.Turn.{second_of}
use Rattle.switch_defs.proofs.Lists.{of_each}
use Rattle.turn_defs.proofs.Parts.{tells_noted}
use Rattle.turn_defs.proofs.Walks.{near_second}
use Rattle.turn_defs.specs.Walks.{Next}
use Rattle.host_sessions.specs.declared.sessions.Sessions.{Sessions}
use Rattle.host_sessions.specs.Idles.{Idles}
use Rattle.control_core.specs.declared.state.Core.{Core}
use Rattle.control_core.specs.Stands.{Holds}
use Rattle.control_core.specs.Passing.{MayPass, PassesIdly}
use Rattle.control_core.proofs.Lemmas.{right_in_place}
use Rattle.control_core.proofs.Passing.{may_tell, passes_on}
use Rattle.control_core.proofs.Standing.{goes_on, renewed}
use Rattle.control_core.proofs.Walking.{lags}

-- its host is forwarded into its own VLAN, before and after
abbrev right_of_it : Session → Option Right
right_of_it y = Some (record { session = y.host.number; vlan = y.standing.vlan })

pub passes_idly : (n : ℕ) (y : Session) (s : State) (core : Core) (k : Sessions) → Holds core s → Next y n s → MayPass 1 s → Idles y s k → PassesIdly y s (record core { sessions = k })
passes_idly n y s core k h next may i =
    let t : State = (second_of y s).state in
    let apart : AreApart (hosts t) = (passes_on 0 y s next.there may).between.hosts.apart in
    let next' = goes_on n y s may.between.hosts.apart next i.goes_on in
    let here : (r : ℕ) → right_of_it y ≡ right_by r y = λ r. rw i.before refl in
    let there : (r : ℕ) → right_of_it y ≡ right_by r (renewed y s) = λ r. rw i.after refl in
    let before : right_of_it y ≡ authorised s y.host.port y.host.address = here _ ∙ right_in_place s y may.between.hosts.apart next.there in
    let after : right_of_it y ≡ authorised t y.host.port y.host.address = there _ ∙ right_in_place t (renewed y s) apart next'.there in
    let near = near_second y s (of_each HasVlan may.vlans next.there) (may_tell y s next.there may) in
    record {
      does = λ tray items.
          let d = i.does tray in
          let l = lags false y.host.port core k y s h refl (sym i.goes_on) d.holds in
          record {
            holds = record { config = l.config; clock = l.clock; ports = sym l.ports; sessions = l.sessions; kept = l.kept };
            sent = d.sent;
            told = tells_noted y.host s t (right_of_it y) (right_of_it y) (map item_of items) (map item_of items) (inl (refl, refl)) before after near;
          };
      goes_on = i.goes_on;
    }
