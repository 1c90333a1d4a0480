-- Numbers and VLANs that fit the settings.
use Rattle.std.proofs.Common.{◌≡◌, ℕ, ◌-◌, List, Option, None, Some, true}
use Rattle.std.specs.List.{AllByRecursion}
use Rattle.dynauth_defs.specs.declared.Action.{Action}
use Rattle.dynauth_defs.specs.declared.Action.TheVariants.{Disconnect, Change}
use Rattle.switch_defs.specs.Switch.{Session, is_vlan}
use Rattle.switch_defs.specs.Sound.{HasVlan}

abbrev pub AreVlans : List Session → Type 0
AreVlans ys = AllByRecursion HasVlan ys

abbrev pub MayName : Option ℕ → Type 0
MayName None = Unit {0}
MayName (Some vlan) = is_vlan vlan ≡ true

abbrev pub NamesVlan : Action → Type 0
NamesVlan (Disconnect number) = Unit {0}
NamesVlan (Change number vlan t) = MayName vlan
