-- A VLAN that is named is one that a frame can name, and a time that is given is at least a second.
use Rattle.std.proofs.Common.{◌≡◌, ℕ, ◌≤◌, Bool, true, false, cond, refl, List, Option, Some, None, arith, inl, inr}
use Rattle.std.specs.Prelude.{◌&&◌, nat_le, IfOk}
use Rattle.std.specs.Str.Parse.{digits_value}
use Rattle.std.proofs.lemmas.Bool.{cases_Bool, cases_eq, eq-eqb, ne_eqb}
use Rattle.std.proofs.lemmas.Bool.Decides.{nat_tests}
use Rattle.wire_defs.specs.Number.{number_in, is_number}
use Rattle.radius_defs.specs.declared.Tunnel.{Tunnel}
use Rattle.radius_defs.specs.declared.Tunnel.TheVariants.{Absent, Partial, Bad, Vlan}
use Rattle.radius_defs.specs.declared.Timeout.{Timeout}
use Rattle.radius_defs.specs.declared.Timeout.TheVariants.{End, Reauth}
use Rattle.radius_defs.specs.declared.attribute.TheConstants.{SESSION_TIMEOUT, TERMINATION_ACTION, TUNNEL_TYPE, TUNNEL_MEDIUM_TYPE, TUNNEL_PRIVATE_GROUP_ID}
use Rattle.radius_defs.specs.declared.value.TheConstants.{VLAN, IEEE_802, MOST_VLAN}
use Rattle.radius_defs.specs.Packet.{Attribute, first_value}
use Rattle.radius_defs.specs.Attributes.{tunnel_of, tunnel_from, vlan_of, is_tagged, without_tag, timeout_of, timeout_from, first_number, is_one}
use Rattle.radius_defs.specs.Grant.{grant_of, grant_from}
use Rattle.radius_defs.specs.InRange.{IsVlan, HasVlan, HasTime, IsInRange}

both : (a b : Bool) → (a && b) ≡ true → (a ≡ true) × (b ≡ true)
both true b h = (refl, h)
both false b h = cc

vlan-is : (n : ℕ) → (nat_le 1 n && nat_le n MOST_VLAN) ≡ true → IsVlan n
vlan-is n h =
    let parts : (nat_le 1 n ≡ true) × (nat_le n MOST_VLAN ≡ true) = both (nat_le 1 n) (nat_le n MOST_VLAN) h in
    let low : nat_le 1 n ≡ true = parts.0 in
    let high : nat_le n MOST_VLAN ≡ true = parts.1 in
    record { least = grind (arith, nat_tests, low); most = grind (arith, nat_tests, high) }

text-vlan : (text : List ℕ) → HasVlan (vlan_of (number_in 1 MOST_VLAN text))
text-vlan text =
    let n : ℕ = digits_value 10 text in
    let is_vlan : Bool = is_number text && (nat_le 1 n && nat_le n MOST_VLAN) in
    elim (cases_Bool is_vlan) [
      | inl there ↦ rw there (vlan-is n (both (is_number text) (nat_le 1 n && nat_le n MOST_VLAN) there).1)
      | inr other ↦ rw other tt
    ]

tunnel-vlan : (kind medium group : Option (List ℕ)) → HasVlan (tunnel_from kind medium group)
tunnel-vlan None None None = tt
tunnel-vlan None None (Some c) = tt
tunnel-vlan None (Some b) None = tt
tunnel-vlan None (Some b) (Some c) = tt
tunnel-vlan (Some a) None None = tt
tunnel-vlan (Some a) None (Some c) = tt
tunnel-vlan (Some a) (Some b) None = tt
tunnel-vlan (Some a) (Some b) (Some c) =
    elim (is_tagged VLAN a && is_tagged IEEE_802 b) as (λ tagged. HasVlan (cond tagged (vlan_of (number_in 1 MOST_VLAN (without_tag c))) Bad)) [
      | true ↦ text-vlan (without_tag c)
      | false ↦ tt
    ]

pub tunnel_in_range : (attributes : List Attribute) → HasVlan (tunnel_of attributes)
tunnel_in_range attributes = tunnel-vlan (first_value TUNNEL_TYPE attributes) (first_value TUNNEL_MEDIUM_TYPE attributes) (first_value TUNNEL_PRIVATE_GROUP_ID attributes)

timeout-time : (time action : Option ℕ) → HasTime (timeout_from time action)
timeout-time None action = tt
timeout-time (Some n) action =
    elim (cases_eq n 0) [
      | inl none ↦ rw (eq-eqb n 0 none) tt
      | inr some ↦
          let least : 1 ≤ n = omega (arith, some) in
          rw (ne_eqb n 0 some) (elim (is_one action) as (λ again. HasTime (cond again (Reauth n) (End n))) [ true ↦ least | false ↦ least ])
    ]

pub timeout_in_range : (attributes : List Attribute) → HasTime (timeout_of attributes)
timeout_in_range attributes = timeout-time (first_number SESSION_TIMEOUT attributes) (first_number TERMINATION_ACTION attributes)

granted : (tunnel : Tunnel) (timeout : Timeout) (native : ℕ) → HasVlan tunnel → HasTime timeout → IsVlan native → IfOk (grant_from tunnel timeout native) (λ g. IsInRange g)
granted Absent timeout native vlan time is = record { vlan = is; time = time }
granted (Vlan n) timeout native vlan time is = record { vlan = vlan; time = time }
granted Partial timeout native vlan time is = tt
granted Bad timeout native vlan time is = tt

-- a grant is in range on a port whose own VLAN is
pub grant_in_range : (attributes : List Attribute) (native : ℕ) → IsVlan native → IfOk (grant_of attributes native) (λ g. IsInRange g)
grant_in_range attributes native is = granted (tunnel_of attributes) (timeout_of attributes) native (tunnel_in_range attributes) (timeout_in_range attributes) is
