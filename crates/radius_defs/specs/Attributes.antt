-- What the attributes of a packet say: numbers, the VLAN, the session's time, and which may stand in a dynamic request.
use Rattle.std.specs.Prelude.{ℕ, ◌+◌, ◌*◌, ◌==◌, ◌&&◌, ◌||◌, nat_le, Bool, false, if◌then◌else◌, List, [], ◌∷◌, length, slice_index, Option, Some, None}
use Rattle.std.specs.List.{list_any, flat_map}
use Rattle.std.specs.Option.{option_and_then}
use Rattle.wire_defs.specs.Number.{four_octets, pair, quad, number_in}
use Rattle.wire_defs.specs.Station.{octet_text}
use Rattle.radius_defs.specs.declared.Tunnel.{Tunnel}
use Rattle.radius_defs.specs.declared.Tunnel.TheVariants.{Absent, Partial, Bad, Vlan}
use Rattle.radius_defs.specs.declared.Timeout.{Timeout}
use Rattle.radius_defs.specs.declared.Timeout.TheVariants.{Unset, End, Reauth}
use Rattle.radius_defs.specs.declared.attribute.TheConstants.{USER_NAME, NAS_IP_ADDRESS, NAS_PORT, REPLY_MESSAGE, CLASS, SESSION_TIMEOUT, TERMINATION_ACTION, CALLING_STATION_ID, NAS_IDENTIFIER, PROXY_STATE, ACCT_SESSION_ID, ACCT_TERMINATE_CAUSE, EVENT_TIMESTAMP, TUNNEL_TYPE, TUNNEL_MEDIUM_TYPE, MESSAGE_AUTHENTICATOR, TUNNEL_PRIVATE_GROUP_ID}
use Rattle.radius_defs.specs.declared.code.TheConstants.{DISCONNECT_REQUEST, COA_REQUEST}
use Rattle.radius_defs.specs.declared.value.TheConstants.{RADIUS_REQUEST, VLAN, IEEE_802, MOST_VLAN}
use Rattle.radius_defs.specs.Packet.{Attribute, first_value}

-- four octets as a number, the most significant first (RFC 2865, section 5)
abbrev pub number_of : List ℕ → Option ℕ
number_of value = if length value == 4 then Some (quad value 0) else None

-- the number of a session, in Acct-Session-Id: eight hexadecimal digits in upper case (RFC 2866, section 5.5)
abbrev pub session_text : ℕ → List ℕ
session_text session = flat_map octet_text (four_octets session)

-- four octets: a tag, and this number in the last three (RFC 2868, sections 3.1 and 3.2)
abbrev pub is_tagged : ℕ → List ℕ → Bool
is_tagged n value = length value == 4 && 65536 * slice_index value 1 + pair value 2 == n

-- a text without its tag, a first octet of 0x00 to 0x1F (RFC 2868, section 3.6)
abbrev pub without_tag : List ℕ → List ℕ
without_tag [] = []
without_tag (octet ∷ rest) = if nat_le octet 0x1f then rest else octet ∷ rest

-- the VLAN of a number that was read
abbrev pub vlan_of : Option ℕ → Tunnel
vlan_of (Some n) = Vlan n
vlan_of None = Bad

-- Tunnel-Type 13, VLAN; Tunnel-Medium-Type 6, 802; and in Tunnel-Private-Group-ID a number from 1 to 4094 (RFC 3580, section 3.31)
abbrev pub tunnel_from : Option (List ℕ) → Option (List ℕ) → Option (List ℕ) → Tunnel
tunnel_from None None None = Absent
tunnel_from (Some kind) (Some medium) (Some group) =
    if is_tagged VLAN kind && is_tagged IEEE_802 medium then vlan_of (number_in 1 MOST_VLAN (without_tag group)) else Bad
tunnel_from _ _ _ = Partial

-- of each type the first attribute counts
abbrev pub tunnel_of : List Attribute → Tunnel
tunnel_of attributes = tunnel_from (first_value TUNNEL_TYPE attributes) (first_value TUNNEL_MEDIUM_TYPE attributes) (first_value TUNNEL_PRIVATE_GROUP_ID attributes)

-- the number in the first attribute of this type
abbrev pub first_number : ℕ → List Attribute → Option ℕ
first_number kind attributes = option_and_then number_of (first_value kind attributes)

abbrev pub is_one : Option ℕ → Bool
is_one None = false
is_one (Some n) = n == RADIUS_REQUEST

-- Session-Timeout, and Termination-Action 1, RADIUS-Request (RFC 2865, sections 5.27 and 5.29; RFC 3580, sections 3.17 and 3.19)
abbrev pub timeout_from : Option ℕ → Option ℕ → Timeout
timeout_from None action = Unset
timeout_from (Some n) action = if n == 0 then Unset else if is_one action then Reauth n else End n

abbrev pub timeout_of : List Attribute → Timeout
timeout_of attributes = timeout_from (first_number SESSION_TIMEOUT attributes) (first_number TERMINATION_ACTION attributes)

-- the attributes that a Disconnect-Request and a CoA-Request may have alike (RFC 5176, section 3.6)
abbrev pub in_both : List ℕ
in_both =
    USER_NAME ∷ NAS_IP_ADDRESS ∷ NAS_PORT ∷ REPLY_MESSAGE ∷ CLASS ∷ CALLING_STATION_ID ∷ NAS_IDENTIFIER
    ∷ PROXY_STATE ∷ ACCT_SESSION_ID ∷ EVENT_TIMESTAMP ∷ MESSAGE_AUTHENTICATOR ∷ []

-- those that a Disconnect-Request may have beside them
abbrev pub in_disconnect : List ℕ
in_disconnect = ACCT_TERMINATE_CAUSE ∷ []

-- those that a CoA-Request may have beside them
abbrev pub in_change : List ℕ
in_change = SESSION_TIMEOUT ∷ TERMINATION_ACTION ∷ TUNNEL_TYPE ∷ TUNNEL_MEDIUM_TYPE ∷ TUNNEL_PRIVATE_GROUP_ID ∷ []

-- a type that a request of this code may have
abbrev pub is_allowed : ℕ → ℕ → Bool
is_allowed code kind =
    list_any (λ k. kind == k) in_both
    || (code == DISCONNECT_REQUEST && list_any (λ k. kind == k) in_disconnect)
    || (code == COA_REQUEST && list_any (λ k. kind == k) in_change)
