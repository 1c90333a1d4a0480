-- The VLANs and the times that packets give, and their ranges.
use Rattle.std.specs.Prelude.{ℕ, ◌≤◌}
use Rattle.radius_defs.specs.declared.Tunnel.{Tunnel}
use Rattle.radius_defs.specs.declared.Tunnel.TheVariants.{Absent, Partial, Bad, Vlan}
use Rattle.radius_defs.specs.declared.Timeout.{Timeout}
use Rattle.radius_defs.specs.declared.Timeout.TheVariants.{Unset, End, Reauth}
use Rattle.radius_defs.specs.declared.Grant.{Grant}
use Rattle.radius_defs.specs.declared.value.TheConstants.{MOST_VLAN}

-- a VLAN that a frame can name (IEEE Std 802.1Q, 9.6)
pub record IsVlan (n : ℕ) : Type 0 where
  pub least : 1 ≤ n
  pub most : n ≤ MOST_VLAN

-- a VLAN that a packet names is one
abbrev pub HasVlan : Tunnel → Type 0
HasVlan (Vlan n) = IsVlan n
HasVlan Absent = Unit {0}
HasVlan Partial = Unit {0}
HasVlan Bad = Unit {0}

-- a time that a packet gives is a second at least
abbrev pub HasTime : Timeout → Type 0
HasTime Unset = Unit {0}
HasTime (End n) = 1 ≤ n
HasTime (Reauth n) = 1 ≤ n

-- a grant of such a VLAN and such a time
pub record IsInRange (g : Grant) : Type 0 where
  pub vlan : IsVlan g.vlan
  pub time : HasTime g.timeout
