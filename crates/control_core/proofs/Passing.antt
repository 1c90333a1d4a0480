-- A second, session by session.
use Rattle.std.proofs.Common.{◌≡◌, ℕ, suc, ◌+◌, ◌*◌, ◌≤◌, ◌<◌, ◌^◌, refl, sym, ap, subst, List, [], ◌++◌, length, map, filter, Bool, true, false, arith}
use Rattle.std.specs.Prelude.{◌==◌}
use Rattle.std.specs.List.{AllByRecursion}
use Rattle.machine_vars.specs.declared.vars.Vars.{Vars}
use Rattle.settle_defs.specs.Settle.{settled}
use Rattle.switch_event.specs.declared.config.PortConf.{PortConf}
use Rattle.aaa_defs.specs.Waits.{pending_of}
use Rattle.aaa_defs.specs.Age.{aged}
use Rattle.switch_defs.specs.Switch.{Host, Port, Session, Standing, State}
use Rattle.switch_defs.specs.Session.{Another, is_other, rested, stands_as}
use Rattle.switch_event.specs.Event.{Second}
use Rattle.switch_defs.specs.Turn.{age_request, guest_second, guests_second, second_by, second_of, tick, turn}
use Rattle.switch_defs.specs.Laws.{IsBetween, most_turns}
use Rattle.switch_defs.specs.Sound.{HasVlan, In, IsSound, confs}
use Rattle.switch_defs.proofs.Lists.{each_filter, each_in, each_map, in_map, of_each}
use Rattle.switch_defs.proofs.Keeping.{confs_map, kept_each, kept_second}
use Rattle.switch_defs.specs.Moving.{stays}
use Rattle.switch_defs.proofs.Fitting.{vlans_second}
use Rattle.switch_defs.proofs.Resting.{closed_by, done_sessions, hosts_closed, hosts_placed, is_other_host}
use Rattle.switch_defs.proofs.Soundness.{distinct_of, numbers_fit, seconds_may_settle, sound_is_between, turns_are_sound}
use Rattle.table_defs.specs.Table.{Item}
use Rattle.table_defs.proofs.Told.{by_guests, by_none, by_then, few_opened, restricted_sound, session_conf}
use Rattle.table_defs.specs.Told.{AreRestricted, HasConf, Speaks, ToldBy, opened_guests}
use Rattle.turn_defs.specs.Parts.{TellsOn}
use Rattle.std.proofs.lemmas.List.{length-append, length-map}
use Rattle.turn_defs.specs.Walks.{later}
use Rattle.control_core.specs.Passing.{MayPass}

-- ---- the ports of sessions stay configured

abbrev Configured : List PortConf → List Session → Type 0
Configured cs ys = AllByRecursion (λ h. HasConf cs h.port) (map (λ y. y.host) ys)

configured_closed : (cs : List PortConf) (h : Host) (ys : List Session) → Configured cs ys → Configured cs (filter (is_other h) ys)
configured_closed cs h ys a = subst (λ (hs : List Host). AllByRecursion (λ h. HasConf cs h.port) hs) (sym (hosts_closed h ys)) (each_filter (λ h. HasConf cs h.port) (is_other_host h) (map (λ y. y.host) ys) a)

configured_by : (cs : List PortConf) (over : Bool) (y : Session) (s : State) → Configured cs s.sessions → Configured cs (second_by over y s).state.sessions
configured_by cs true y s a = configured_closed cs y.host s.sessions a
configured_by cs false y s a =
    let w : Vars = (settled (later y s).vars).vars in
    let x : Standing = rested Another (later y s) w in
    let placed : Configured cs (map (stands_as y.host x) s.sessions) = subst (λ (hs : List Host). AllByRecursion (λ h. HasConf cs h.port) hs) (sym (hosts_placed y.host x s.sessions)) a in
    subst (Configured cs) (sym (done_sessions Another y.host x (age_request (aged (pending_of y.host.number s.waits)) y.host s) w.aaa_abort w.aaa_eap_resp w.gone)) (by w.gone (map (stands_as y.host x) s.sessions) placed)
  where
    by : (g : Bool) (ys : List Session) → Configured cs ys → Configured cs (closed_by g y.host ys)
    by true ys c = configured_closed cs y.host ys c
    by false ys c = c

-- ---- what may pass

-- after one session's second the others may have theirs
pub passes_on : (more : ℕ) (y : Session) (s : State) → In y s.sessions → MayPass (suc more) s → MayPass more (second_of y s).state
passes_on more y s i m =
    let t : State = (second_of y s).state in
    let k = kept_second y s in
    let same : confs s.ports ≡ confs t.ports = sym k.confs in
    record {
      between = (seconds_may_settle y s m.between i).0;
      configured = subst (λ (cs : List PortConf). Configured cs t.sessions) same (configured_by (confs s.ports) (y.standing.end_while == 1) y s m.configured);
      restricted = subst AreRestricted same m.restricted;
      vlans = vlans_second y s (of_each HasVlan m.vlans i) m.vlans;
      asked = omega (arith, k.asked, m.asked);
    }

pub fewer_pass : (more : ℕ) (s : State) → MayPass (suc more) s → MayPass 1 s
fewer_pass more s m = record { between = m.between; configured = m.configured; restricted = m.restricted; vlans = m.vlans; asked = omega (arith, m.asked) }

pub may_tell : {more : ℕ} (y : Session) (s : State) → In y s.sessions → MayPass more s → Speaks y.host s s
may_tell y s i m = record { here = of_each (λ h. HasConf (confs s.ports) h.port) m.configured (in_map (λ (z : Session). z.host) i); restricted = m.restricted; vlans = m.vlans }

-- ---- a second begins

pub clock_fits : (turns : ℕ) (s : State) → turns < most_turns → IsSound turns s → s.clock + 1 < 2 ^ 64
clock_fits turns s few a =
    let fits = numbers_fit (turns + 1) (turn s Second).state (omega (arith, few)) (turns_are_sound turns s Second a) in
    let k = (kept_each s.sessions (guests_second (tick s))).clock in
    subst (λ (n : ℕ). n < 2 ^ 64) k fits.0

pub passes_first : (turns : ℕ) (s : State) → turns < most_turns → IsSound turns s → MayPass (length s.sessions) (guests_second (tick s))
passes_first turns s few a =
    let b : IsBetween s = sound_is_between turns s a in
    let same : confs s.ports ≡ confs (guests_second (tick s)).ports = sym (confs_map guest_second (λ p. refl) s.ports) in
    let l : length s.sessions ≤ 960 = b.few in
    let asked : s.asked ≤ 961 * turns = a.asked in
    let on : Configured (confs s.ports) s.sessions = each_map (λ h. HasConf (confs s.ports) h.port) (λ (y : Session). y.host) s.sessions (each_in (λ (y : Session). HasConf (confs s.ports) y.host.port) s.sessions (λ y i. session_conf s y a i)) in
    record {
      between = record { hosts = b.hosts; few = b.few; rests = b.rests };
      configured = subst (λ (cs : List PortConf). Configured cs s.sessions) same on;
      restricted = subst AreRestricted same (restricted_sound s a);
      vlans = a.vlans;
      asked = omega (arith, l, asked, few);
    }

pub tells_guests : (turns : ℕ) (s : State) → IsSound turns s → (before after : List Item) → after ≡ before ++ opened_guests s.ports → TellsOn s (guests_second (tick s)) before after
tells_guests turns s a before after e =
    let ticked : ToldBy [] s (tick s) = by_none s (tick s) refl refl refl (record { by = stays }) in
    let told : ToldBy (opened_guests s.ports) s (guests_second (tick s)) = by_then ticked (by_guests (tick s) (distinct_of s a) a.guests) in
    λ start so_far. subst (λ (is : List Item). ToldBy is start (guests_second (tick s))) (sym e) (by_then so_far told)

pub few_guests : {A : Type 0} (f : A → Item) (before after : List A) (ps : List Port) → map f after ≡ map f before ++ opened_guests ps → length after ≤ length before + length ps
few_guests f before after ps e =
    let few : length (opened_guests ps) ≤ length ps = few_opened ps in
    let same : length after ≡ length before + length (opened_guests ps) = simp (length-append, length-map) at (ap length e) in
    omega (arith, same, few)
