-- The definitions, computed at octets and attributes whose meaning is known.
use Rattle.std.proofs.Common.{◌≡◌, ℕ, true, false, List, [], ◌∷◌, ◌++◌, refl, codes, lit<, lit≤, inl, Some, None, Ok, Err}
use Rattle.radius_defs.specs.declared.RadDrop.TheVariants.{Short, BadLength, BadAttribute}
use Rattle.radius_defs.specs.declared.Tunnel.TheVariants.{Absent, Partial, Bad, Vlan}
use Rattle.radius_defs.specs.declared.Timeout.TheVariants.{Unset, End, Reauth}
use Rattle.radius_defs.specs.declared.Ma.TheVariants.{Right, Wrong}
use Rattle.radius_defs.specs.Packet.{Attribute, packet_text, PacketOf, first_value, eap_of}
use Rattle.radius_defs.specs.Digest.{zeros}
use Rattle.radius_defs.specs.Attributes.{number_of, session_text, tunnel_of, timeout_of, is_allowed}
use Rattle.radius_defs.specs.Message.{message_from, with_message, first_place}
use Rattle.radius_defs.specs.Grant.{grant_of}

-- a Challenge with two pieces of EAP and a State between them
pieces_of_eap : eap_of (record { kind = 79; value = 1 ∷ 2 ∷ [] } ∷ record { kind = 24; value = 7 ∷ [] } ∷ record { kind = 79; value = 3 ∷ [] } ∷ []) ≡ 1 ∷ 2 ∷ 3 ∷ []
pieces_of_eap = refl

the_first_of_a_type : first_value 24 (record { kind = 79; value = 1 ∷ [] } ∷ record { kind = 24; value = 7 ∷ [] } ∷ record { kind = 24; value = 8 ∷ [] } ∷ []) ≡ Some (7 ∷ [])
the_first_of_a_type = refl

-- Access-Accept 9 with Service-Type 2, a length of 26
text_of_a_packet : packet_text (record { code = 2; identifier = 9; authenticator = zeros 16; attributes = record { kind = 6; value = 0 ∷ 0 ∷ 0 ∷ 2 ∷ [] } ∷ [] })
    ≡ 2 ∷ 9 ∷ 0 ∷ 26 ∷ zeros 16 ++ 6 ∷ 6 ∷ 0 ∷ 0 ∷ 0 ∷ 2 ∷ []
text_of_a_packet = refl

-- one octet of padding
a_packet_and_padding : PacketOf (2 ∷ 9 ∷ 0 ∷ 20 ∷ zeros 16 ++ 0 ∷ []) (Ok (record { code = 2; identifier = 9; authenticator = zeros 16; attributes = [] }))
a_packet_and_padding = record { fits = record { authenticator = refl; body = lit≤ tt }; padding = 0 ∷ []; split = refl }

nineteen_octets_are_short : PacketOf (2 ∷ 9 ∷ 0 ∷ 20 ∷ zeros 15) (Err Short)
nineteen_octets_are_short = lit< tt

a_length_of_19 : PacketOf (2 ∷ 9 ∷ 0 ∷ 19 ∷ zeros 16) (Err BadLength)
a_length_of_19 = (lit≤ tt, inl (lit< tt))

-- an attribute of length 1 at the front
an_attribute_of_length_1 : PacketOf (2 ∷ 9 ∷ 0 ∷ 23 ∷ zeros 16 ++ 6 ∷ 1 ∷ 0 ∷ []) (Err (BadAttribute 20))
an_attribute_of_length_1 = (
  lit≤ tt,
  record { least = lit≤ tt; most = lit≤ tt; there = lit≤ tt },
  record { attributes = []; rest = 6 ∷ 1 ∷ 0 ∷ []; split = refl; place = refl; broken = inl (lit< tt) },
)

-- Tunnel-Type VLAN, Tunnel-Medium-Type 802 with tag 1, and this text in Tunnel-Private-Group-ID
abbrev tunnel_by : List ℕ → List Attribute
tunnel_by text = record { kind = 64; value = 0 ∷ 0 ∷ 0 ∷ 13 ∷ [] } ∷ record { kind = 65; value = 1 ∷ 0 ∷ 0 ∷ 6 ∷ [] } ∷ record { kind = 81; value = text } ∷ []

the_last_vlan : tunnel_of (tunnel_by (codes "4094")) ≡ Vlan 4094
the_last_vlan = refl

behind_a_tag : tunnel_of (tunnel_by (31 ∷ 55 ∷ [])) ≡ Vlan 7
behind_a_tag = refl

no_vlan_4095 : tunnel_of (tunnel_by (codes "4095")) ≡ Bad
no_vlan_4095 = refl

no_vlan_0 : tunnel_of (tunnel_by (codes "0")) ≡ Bad
no_vlan_0 = refl

no_leading_zero : tunnel_of (tunnel_by (codes "010")) ≡ Bad
no_leading_zero = refl

no_space_is_a_tag : tunnel_of (tunnel_by (codes " 7")) ≡ Bad
no_space_is_a_tag = refl

a_type_alone : tunnel_of (record { kind = 64; value = 0 ∷ 0 ∷ 0 ∷ 13 ∷ [] } ∷ []) ≡ Partial
a_type_alone = refl

no_tunnel : tunnel_of [] ≡ Absent
no_tunnel = refl

number_of_four_octets : number_of (0 ∷ 1 ∷ 0 ∷ 2 ∷ []) ≡ Some 65538
number_of_four_octets = refl

number_of_three_octets : number_of (0 ∷ 1 ∷ 0 ∷ []) ≡ None
number_of_three_octets = refl

an_end : timeout_of (record { kind = 27; value = 0 ∷ 0 ∷ 1 ∷ 0 ∷ [] } ∷ []) ≡ End 256
an_end = refl

a_reauthentication : timeout_of (record { kind = 29; value = 0 ∷ 0 ∷ 0 ∷ 1 ∷ [] } ∷ record { kind = 27; value = 0 ∷ 0 ∷ 1 ∷ 0 ∷ [] } ∷ []) ≡ Reauth 256
a_reauthentication = refl

a_time_of_three_octets : timeout_of (record { kind = 27; value = 0 ∷ 1 ∷ 0 ∷ [] } ∷ []) ≡ Unset
a_time_of_three_octets = refl

a_time_of_0 : timeout_of (record { kind = 27; value = 0 ∷ 0 ∷ 0 ∷ 0 ∷ [] } ∷ []) ≡ Unset
a_time_of_0 = refl

one_right_value : message_from (record { kind = 80; value = zeros 16 } ∷ []) (zeros 16) ≡ Right
one_right_value = refl

two_right_values : message_from (record { kind = 80; value = zeros 16 } ∷ record { kind = 80; value = zeros 16 } ∷ []) (zeros 16) ≡ Wrong
two_right_values = refl

-- the Message-Authenticator stands before the others, its value at place 22
message_before_others : packet_text (with_message (record { code = 1; identifier = 7; authenticator = zeros 16; attributes = record { kind = 1; value = codes "bob" } ∷ [] }) (codes "0123456789abcdef"))
    ≡ 1 ∷ 7 ∷ 0 ∷ 43 ∷ zeros 16 ++ 80 ∷ 18 ∷ codes "0123456789abcdef" ++ 1 ∷ 5 ∷ codes "bob"
message_before_others = refl

place_of_the_first_value : first_place ≡ 22
place_of_the_first_value = refl

session_1 : session_text 1 ≡ codes "00000001"
session_1 = refl

session_in_upper_case : session_text 3735928559 ≡ codes "DEADBEEF"
session_in_upper_case = refl

cause_in_a_disconnect : is_allowed 40 49 ≡ true
cause_in_a_disconnect = refl

no_cause_in_a_change : is_allowed 43 49 ≡ false
no_cause_in_a_change = refl

the_native_vlan : grant_of [] 5 ≡ Ok (record { vlan = 5; timeout = Unset })
the_native_vlan = refl
