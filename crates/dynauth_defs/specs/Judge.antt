-- How a Disconnect-Request or a CoA-Request is judged (RFC 5176, sections 2, 3 and 6).
use Rattle.std.specs.Prelude.{ℕ, ◌+◌, ◌==◌, ◌&&◌, ◌||◌, not, nat_lt, Bool, true, false, if◌then◌else◌, List, [], ◌∷◌, length, Option, Some, None, is_some, is_none, unwrap_or, find, position}
use Rattle.std.specs.List.{list_any, list_all, zip}
use Rattle.std.specs.Str.{bytes_eq}
use Rattle.wire_defs.specs.Station.{station_of}
use Rattle.radius_defs.specs.declared.Ma.{Ma}
use Rattle.radius_defs.specs.declared.Ma.TheVariants.{Absent, Right, Wrong}
use Rattle.radius_defs.specs.declared.Tunnel.{Tunnel}
use Rattle.radius_defs.specs.declared.Tunnel.TheVariants.{Absent as NoTunnel, Partial, Bad, Vlan}
use Rattle.radius_defs.specs.declared.attribute.TheConstants.{USER_NAME, NAS_IP_ADDRESS, NAS_PORT, SERVICE_TYPE, SESSION_TIMEOUT, TERMINATION_ACTION, CALLING_STATION_ID, NAS_IDENTIFIER, ACCT_SESSION_ID, EVENT_TIMESTAMP, TUNNEL_TYPE, TUNNEL_MEDIUM_TYPE, TUNNEL_PRIVATE_GROUP_ID}
use Rattle.radius_defs.specs.declared.cause.TheConstants.{UNSUPPORTED_ATTRIBUTE, MISSING_ATTRIBUTE, NAS_IDENTIFICATION_MISMATCH, UNSUPPORTED_SERVICE, INVALID_ATTRIBUTE_VALUE, SESSION_CONTEXT_NOT_FOUND, MULTIPLE_SESSION_SELECTION_UNSUPPORTED}
use Rattle.radius_defs.specs.declared.code.TheConstants.{DISCONNECT_REQUEST, COA_REQUEST}
use Rattle.radius_defs.specs.Packet.{Attribute, Packet, packet_text}
use Rattle.radius_defs.specs.Parsed.{packet_of}
use Rattle.radius_defs.specs.Digest.{zeros, request_auth}
use Rattle.radius_defs.specs.Message.{message_state_of}
use Rattle.radius_defs.specs.Attributes.{number_of, first_number, tunnel_of, timeout_of, is_allowed}
use Rattle.kept_defs.specs.Kept.{Entry, newest_reply}
use Rattle.switch_event.specs.Config.{Config, Client, Nas}
use Rattle.wire_core.specs.declared.address.Addr.{Addr}
use Rattle.dynauth_defs.specs.declared.TheConstants.{MOST_REQUEST}
use Rattle.switch_event.specs.declared.drop.DynDrop.{DynDrop}
use Rattle.switch_event.specs.declared.drop.DynDrop.TheVariants.{Stranger, Malformed, Oversize, BadCode, BadAuthenticator, BadMessageAuth, Stale}
use Rattle.dynauth_defs.specs.declared.Action.{Action}
use Rattle.dynauth_defs.specs.declared.Action.TheVariants.{Disconnect, Change}
use Rattle.dynauth_defs.specs.Session.{Row, matching}

-- no reply; the reply that was kept; a Disconnect-NAK or CoA-NAK with this Error-Cause; a Disconnect-ACK or CoA-ACK, and what is
-- done
pub data Judged : Type 0 where
  Drop : (reason : DynDrop) → Judged
  Again : (reply : List ℕ) → Judged
  Nak : (cause : ℕ) → Judged
  Ack : (action : Action) → Judged

-- ---- what lines ask

-- of the clients, each with the replies that are kept for it, the first that has this address
abbrev pub client_of : List ℕ → List Client → List (List Entry) → Option (Client × List Entry)
client_of ip clients kept = find (λ k. bytes_eq k.0.ip ip) (zip clients kept)

-- its place among the clients
abbrev pub place_of : List ℕ → List Client → Option ℕ
place_of ip clients = position (λ c. bytes_eq c.ip ip) clients

abbrev pub is_dynamic : (code : ℕ) → Bool
is_dynamic code = code == DISCONNECT_REQUEST || code == COA_REQUEST

-- a Message-Authenticator for which a request is dropped: a wrong one, and none where one is required (RFC 5176, section 3.4)
abbrev pub is_untrue : (require : Bool) → Ma → Bool
is_untrue require Wrong = true
is_untrue require Right = false
is_untrue require Absent = require

-- an Event-Timestamp that differs from the clock by more than the window (RFC 5176, section 6.3)
abbrev pub is_far : (now window : ℕ) → Option ℕ → Bool
is_far now window None = false
is_far now window (Some moment) = nat_lt (now + window) moment || nat_lt (moment + window) now

-- an attribute of this type is there
abbrev pub has : ℕ → List Attribute → Bool
has kind attributes = list_any (λ a. a.kind == kind) attributes

-- the address or the name of another access server (RFC 5176, section 3)
abbrev pub is_of_another : Nas → Attribute → Bool
is_of_another nas a =
    (a.kind == NAS_IP_ADDRESS && not (bytes_eq a.value nas.ip)) || (a.kind == NAS_IDENTIFIER && not (bytes_eq a.value nas.name))

-- a port or a moment that has not four octets, or a station that is no address
abbrev pub is_ill_formed : Attribute → Bool
is_ill_formed a =
    ((a.kind == NAS_PORT || a.kind == EVENT_TIMESTAMP) && is_none (number_of a.value))
    || (a.kind == CALLING_STATION_ID && is_none (station_of a.value))

-- some session is named
abbrev pub names_session : List Attribute → Bool
names_session attributes =
    has USER_NAME attributes || has NAS_PORT attributes || has CALLING_STATION_ID attributes || has ACCT_SESSION_ID attributes

-- some change is asked for
abbrev pub asks_change : List Attribute → Bool
asks_change attributes =
    has SESSION_TIMEOUT attributes || has TUNNEL_TYPE attributes || has TUNNEL_MEDIUM_TYPE attributes
    || has TUNNEL_PRIVATE_GROUP_ID attributes

abbrev pub is_partial : Tunnel → Bool
is_partial Partial = true
is_partial NoTunnel = false
is_partial Bad = false
is_partial (Vlan n) = false

abbrev pub is_bad : Tunnel → Bool
is_bad Bad = true
is_bad NoTunnel = false
is_bad Partial = false
is_bad (Vlan n) = false

abbrev pub vlan_in : Tunnel → Option ℕ
vlan_in (Vlan n) = Some n
vlan_in NoTunnel = None
vlan_in Partial = None
vlan_in Bad = None

-- no number of four octets, or 0
abbrev pub is_no_time : Option ℕ → Bool
is_no_time None = true
is_no_time (Some n) = n == 0

-- no number of four octets, or one above 1
abbrev pub is_no_action : Option ℕ → Bool
is_no_action None = true
is_no_action (Some n) = nat_lt 1 n

-- the time, where it is there, is none; or the action at its end is none; or the VLAN
abbrev pub has_bad_value : List Attribute → Bool
has_bad_value attributes =
    (has SESSION_TIMEOUT attributes && is_no_time (first_number SESSION_TIMEOUT attributes))
    || (has TERMINATION_ACTION attributes && is_no_action (first_number TERMINATION_ACTION attributes))
    || is_bad (tunnel_of attributes)

-- what a request does to the session of this number
abbrev pub action_on : Packet → ℕ → Action
action_on p number =
    if p.code == DISCONNECT_REQUEST then Disconnect number
    else Change number (vlan_in (tunnel_of p.attributes)) (timeout_of p.attributes)

-- it is done to the first of the sessions that are named
abbrev pub done : Packet → List Row → Judged
done p [] = Nak SESSION_CONTEXT_NOT_FOUND
done p (y ∷ ys) = Ack (action_on p y.number)

-- ---- the list

-- what is judged of something that may be there
abbrev pub with : {A : Type 0} → Option A → Judged → (A → Judged) → Judged
with None without rest = without
with (Some x) without rest = rest x

-- the first line that applies, or else the last
abbrev pub first_line : List (Bool × Judged) → Judged → Judged
first_line [] last = last
first_line (line ∷ lines) last = if line.0 then line.1 else first_line lines last

-- lines 3 to 18 of a packet from a port of a client, for which replies are kept: where each applies, and what is judged then
abbrev pub lines : Config → Client → List Entry → (now : ℕ) → List Row → (port : ℕ) → Packet → List (Bool × Judged)
lines config client replies now rows port p =
    let again = newest_reply port (packet_text p) now replies in
    let named = matching p.attributes rows in
    let change = p.code == COA_REQUEST in
    (nat_lt MOST_REQUEST (length (packet_text p)), Drop Oversize)  -- 3
    ∷ (not (is_dynamic p.code), Drop BadCode)  -- 4
    ∷ (not (bytes_eq p.authenticator (request_auth (packet_text p) client.secret)), Drop BadAuthenticator)  -- 5
    ∷ (is_untrue config.require_ma (message_state_of p (zeros 16) client.secret), Drop BadMessageAuth)  -- 6
    ∷ (is_some again, Again (unwrap_or again []))  -- 7
    ∷ (is_far now config.window (first_number EVENT_TIMESTAMP p.attributes), Drop Stale)  -- 8
    ∷ (list_any (is_of_another config.nas) p.attributes, Nak NAS_IDENTIFICATION_MISMATCH)  -- 9
    ∷ (has SERVICE_TYPE p.attributes, Nak UNSUPPORTED_SERVICE)  -- 10
    ∷ (list_any (λ a. not (is_allowed p.code a.kind)) p.attributes, Nak UNSUPPORTED_ATTRIBUTE)  -- 11
    ∷ (list_any is_ill_formed p.attributes, Nak INVALID_ATTRIBUTE_VALUE)  -- 12
    ∷ (not (names_session p.attributes), Nak MISSING_ATTRIBUTE)  -- 13
    ∷ (length named == 0, Nak SESSION_CONTEXT_NOT_FOUND)  -- 14
    ∷ (nat_lt 1 (length named), Nak MULTIPLE_SESSION_SELECTION_UNSUPPORTED)  -- 15
    ∷ (change && (not (asks_change p.attributes) || is_partial (tunnel_of p.attributes)), Nak MISSING_ATTRIBUTE)  -- 16
    ∷ (change && has_bad_value p.attributes, Nak INVALID_ATTRIBUTE_VALUE)  -- 17
    ∷ (change && not (list_all (λ y. y.authorised) named), Nak SESSION_CONTEXT_NOT_FOUND)  -- 18
    ∷ []

-- the first of nineteen lines that applies to a datagram that came from an address and port, at the moment `now`, where these
-- are the replies kept for each client and the sessions that live
abbrev pub judged : Config → List (List Entry) → (now : ℕ) → List Row → Addr → List ℕ → Judged
judged config kept now rows from octets =
    with (client_of from.ip config.clients kept) (Drop Stranger) (λ (client, replies).  -- 1
    with (packet_of octets) (Drop Malformed) (λ p.  -- 2
    first_line (lines config client replies now rows from.port p) (done p (matching p.attributes rows))))  -- 3 to 18, 19
