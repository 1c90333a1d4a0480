-- The sessions of a port are closed, one after another.
use Rattle.std.proofs.Common.{◌≡◌, ℕ, suc, List, length, subst, sym}
use Rattle.switch_event.specs.declared.config.PortConf.{PortConf}
use Rattle.switch_defs.specs.Switch.{Session, State, on_port}
use Rattle.switch_defs.specs.Turn.{close_all, on_port_of}
use Rattle.switch_defs.specs.Sound.{confs}
use Rattle.switch_defs.proofs.Lists.{of_each}
use Rattle.table_defs.specs.Told.{AreRestricted, HasConf}
use Rattle.turn_defs.proofs.Walks.{Closings, ClosingGoes, closings_begin, closings_end, closings_step}
use Rattle.turn_defs.specs.Walks.{after_closing, next_place}
use Rattle.table_defs.specs.declared.change.Item.{Item}
use Rattle.control_core.specs.declared.state.Core.{Core}
use Rattle.control_core.specs.Stands.{Holds}
use Rattle.control_core.specs.Does.{TellsOn}
use Rattle.control_core.specs.Walked.{MayClose, MayEnd}

-- so many are still to be looked at, and the items tell of those that were closed
pub record Closed (s : State) (port n left : ℕ) (core : Core) (before after : List Item) : Type 0 where
  pub state : State
  pub walk : Closings s port n left state
  pub holds : Holds core state
  pub told : TellsOn s state before after

pub closed_begin : (s : State) (port : ℕ) (core : Core) (items : List Item) → MayClose port core s → Closed s port 0 (length s.sessions) core items items
closed_begin s port core items m = record { state = s; walk = closings_begin s port m.hosts m.closes.vlans; holds = m.holds; told = λ start b. b }

pub closed_goes : {s : State} {port n left : ℕ} {core : Core} {before after : List Item} (m : ℕ) → left ≡ suc m → (k : Closed s port n left core before after) → ClosingGoes s port n m k.state
closed_goes {s} {port} {n} {left} m e k = closings_step s port n m k.state (subst (λ (l : ℕ). Closings s port n l k.state) e k.walk)

pub may_end : {s : State} {port n left : ℕ} {core first : Core} {before after : List Item} (m : ℕ) (e : left ≡ suc m) → MayClose port first s → (k : Closed s port n left core before after) → MayEnd n (closed_goes m e k).session core k.state
may_end {s} {port} m e c k =
    let g = closed_goes m e k in
    record {
      next = g.next;
      holds = k.holds;
      speaks = record {
        here = subst (λ (cs : List PortConf). HasConf cs g.session.host.port) (sym k.walk.confs) (of_each (λ (y : Session). HasConf (confs s.ports) y.host.port) c.closes.hosts (k.walk.there g.session g.next.there));
        restricted = subst AreRestricted (sym k.walk.confs) c.closes.restricted;
        vlans = k.walk.vlans;
      };
    }

-- one more was looked at
pub closed_step : {s : State} {port n left : ℕ} {core first : Core} {before after : List Item} (m next : ℕ) (e : left ≡ suc m) (c : MayClose port first s) (k : Closed s port n left core before after) (new : Core) (more : List Item) →
    ((t : State) (y : Session) → MayEnd n y core t → next ≡ next_place (on_port port y) n) → ((t : State) (y : Session) → MayEnd n y core t → Holds new (after_closing (on_port port y) y t)) →
    ((t : State) (y : Session) → MayEnd n y core t → TellsOn t (after_closing (on_port port y) y t) after more) → Closed s port next m new before more
closed_step {s} {port} {n} m next e c k new more at holds told =
    let g = closed_goes m e k in
    let y : Session = g.session in
    let may = may_end m e c k in
    record {
      state = after_closing (on_port port y) y k.state;
      walk = subst (λ (p : ℕ). Closings s port p m (after_closing (on_port port y) y k.state)) (sym (at k.state y may)) g.after;
      holds = holds k.state y may;
      told = λ start b. told k.state y may start (k.told start b);
    }

pub closed_end : {s : State} {port n left : ℕ} {core : Core} {before after : List Item} → left ≡ 0 → Closed s port n left core before after → Holds core (close_all (on_port_of port s) s) × TellsOn s (close_all (on_port_of port s) s) before after
closed_end {s} {port} {n} {left} {core} {before} {after} e k =
    let same : k.state ≡ close_all (on_port_of port s) s = closings_end s port n k.state (subst (λ (l : ℕ). Closings s port n l k.state) e k.walk) in
    (subst (λ (t : State). Holds core t) same k.holds, subst (λ (t : State). TellsOn s t before after) same k.told)
