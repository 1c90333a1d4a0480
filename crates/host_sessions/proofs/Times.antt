-- The times of a session's machines stay those of the settings.
use Rattle.std.proofs.Common.{◌≡◌, ℕ, refl, Option, Some, None}
use Rattle.machine_vars.specs.declared.vars.Vars.{Vars}
use Rattle.machine_defs.specs.Live.{Event, set, Start, Logoff, Greeting, Packet, Challenge, Notice, Accept, Reject, Second, Change}
use Rattle.radius_defs.specs.declared.Timeout.{Timeout}
use Rattle.radius_defs.specs.declared.Timeout.TheVariants.{Unset, End, Reauth}
use Rattle.switch_defs.specs.Switch.{Standing, State}
use Rattle.switch_defs.specs.Dynamic.{times_or, vlan_or}

pub set_times : (e : Event) (v : Vars) → (set e v).times ≡ v.times
set_times Start v = refl
set_times Logoff v = refl
set_times (Greeting source) v = refl
set_times (Packet eap) v = refl
set_times (Challenge eap wait) v = refl
set_times Notice v = refl
set_times (Accept eap again period) v = refl
set_times (Reject eap) v = refl
set_times (Second gave_up) v = refl
set_times (Change again period) v = refl

vlan_times : (vlan : Option ℕ) (x : Standing) → (vlan_or vlan x).vars.times ≡ x.vars.times
vlan_times None x = refl
vlan_times (Some vlan) x = refl

pub changed_times : (timeout : Timeout) (vlan : Option ℕ) (s : State) (x : Standing) →
    (times_or timeout s (vlan_or vlan x)).vars.times ≡ x.vars.times
changed_times Unset vlan s x = vlan_times vlan x
changed_times (End n) vlan s x = vlan_times vlan x
changed_times (Reauth n) vlan s x = vlan_times vlan x
