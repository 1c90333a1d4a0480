-- What holds of each request that is acknowledged.
use Rattle.std.proofs.Common.{◌≡◌, ◌⊎◌, inl, inr, ℕ, refl, sym, subst, ◌∙◌, List, Some, true}
use Rattle.kept_defs.specs.Kept.{Entry}
use Rattle.radius_defs.specs.Packet.{Packet}
use Rattle.radius_defs.specs.Attributes.{tunnel_of, timeout_of}
use Rattle.radius_defs.specs.declared.code.TheConstants.{DISCONNECT_REQUEST, COA_REQUEST}
use Rattle.switch_event.specs.Config.{Config}
use Rattle.wire_core.specs.declared.address.Addr.{Addr}
use Rattle.dynauth_defs.specs.declared.Action.{Action}
use Rattle.dynauth_defs.specs.declared.Action.TheVariants.{Disconnect, Change}
use Rattle.dynauth_defs.specs.Session.{Row, matches}
use Rattle.dynauth_defs.specs.Judge.{Judged, Drop, Again, Nak, Ack, judged, action_on, vlan_in}
use Rattle.dynauth_defs.specs.Answered.{GetsReply}
use Rattle.dynauth_defs.proofs.AnsweredLemmas.{answered_requests, acknowledged_actions}
use Rattle.switch_defs.specs.Sound.{In, here}
use Rattle.switch_defs.proofs.Lists.{in_kept}

-- P holds of the action, where there is one
abbrev pub Acks : (Action → Type 0) → Judged → Type 0
Acks P (Drop reason) = Unit {0}
Acks P (Again reply) = Unit {0}
Acks P (Nak cause) = Unit {0}
Acks P (Ack a) = P a

on_disconnect : (p : Packet) (n : ℕ) → p.code ≡ DISCONNECT_REQUEST → action_on p n ≡ Disconnect n
on_disconnect p n e = rw e refl

on_change : (p : Packet) (n : ℕ) → p.code ≡ COA_REQUEST → action_on p n ≡ Change n (vlan_in (tunnel_of p.attributes)) (timeout_of p.attributes)
on_change p n e = rw e refl

same_packet : (p q : Packet) → Some p ≡ Some q → p ≡ q
same_packet p q e = cc

module _ (P : Action → Type 0) (rows : List Row) (ends : (r : Row) → In r rows → P (Disconnect r.number))
    (changes : (p : Packet) (r : Row) → In r rows → r.authorised ≡ true → P (Change r.number (vlan_in (tunnel_of p.attributes)) (timeout_of p.attributes))) where
  acked : (config : Config) (kept : List (List Entry)) (now : ℕ) (from : Addr) (octets : List ℕ) (a : Action) → judged config kept now rows from octets ≡ Ack a → P a
  acked config kept now from octets a e =
      let d = acknowledged_actions config kept now rows from octets a e in
      let k = answered_requests config kept now rows from octets (subst GetsReply (sym e) tt) in
      let same : k.packet ≡ d.packet = same_packet k.packet d.packet (sym k.parsed ∙ d.parsed) in
      let code : (d.packet.code ≡ DISCONNECT_REQUEST) ⊎ (d.packet.code ≡ COA_REQUEST) = subst (λ (p : Packet). (p.code ≡ DISCONNECT_REQUEST) ⊎ (p.code ≡ COA_REQUEST)) same k.request.code in
      let i : In d.row rows = (in_kept (matches d.packet.attributes) rows (subst (λ (ys : List Row). In d.row ys) (sym d.named) here)).0 in
      subst P (sym d.action_is) (elim code [
        | inl ended ↦ subst P (sym (on_disconnect d.packet d.row.number ended)) (ends d.row i)
        | inr change ↦ subst P (sym (on_change d.packet d.row.number change)) (changes d.packet d.row i (d.authorised change))
      ])

  by_judged : (config : Config) (kept : List (List Entry)) (now : ℕ) (from : Addr) (octets : List ℕ) (j : Judged) → judged config kept now rows from octets ≡ j → Acks P j
  by_judged config kept now from octets (Drop reason) e = tt
  by_judged config kept now from octets (Again reply) e = tt
  by_judged config kept now from octets (Nak cause) e = tt
  by_judged config kept now from octets (Ack a) e = acked config kept now from octets a e

  pub judged_acks : (config : Config) (kept : List (List Entry)) (now : ℕ) (from : Addr) (octets : List ℕ) → Acks P (judged config kept now rows from octets)
  judged_acks config kept now from octets = by_judged config kept now from octets (judged config kept now rows from octets) refl
