-- What is heard of the switch: the identity that it asks a host for, what it asks the RADIUS server, and what the server answers.
use Rattle.std.specs.Prelude.{ℕ, ◌==◌, ◌&&◌, nat_lt, if◌then◌else◌, List, [], ◌∷◌, drop, slice_index, Option, Some, None, option_and_then, option_map, Result, Ok, Err, true, codes}
use Rattle.std.specs.Option.{option_or}
use Rattle.std.specs.Str.{bytes_eq}
use Rattle.std.specs.Fmt.{decimal}
use Rattle.wire_defs.specs.declared.EapolDrop.{EapolDrop}
use Rattle.wire_defs.specs.declared.EapDrop.{EapDrop}
use Rattle.wire_defs.specs.Number.{four_octets}
use Rattle.wire_defs.specs.Ethernet.{destination}
use Rattle.wire_defs.specs.Eapol.{Eapol, eapol_of}
use Rattle.wire_defs.specs.Eap.{Eap, eap_of, canned}
use Rattle.wire_defs.specs.Station.{station_of}
use Rattle.radius_defs.specs.declared.attribute.TheConstants.{CALLING_STATION_ID, TUNNEL_TYPE, TUNNEL_MEDIUM_TYPE, TUNNEL_PRIVATE_GROUP_ID, EAP_MESSAGE}
use Rattle.radius_defs.specs.declared.code.TheConstants.{ACCESS_ACCEPT}
use Rattle.radius_defs.specs.declared.value.TheConstants.{VLAN, IEEE_802}
use Rattle.radius_defs.specs.Packet.{Attribute, Packet, first_value, packet_text}
use Rattle.radius_defs.specs.Packet as radius
use Rattle.radius_defs.specs.Parsed.{packet_of}
use Rattle.radius_defs.specs.Digest.{response_auth}
use Rattle.radius_defs.specs.Message.{signed}
use Rattle.switch_event.specs.Sent.{Sent, ToHost, ToServer, ToClient}
use Rattle.day_defs.specs.declared.Question.{Question}
use Rattle.day_defs.specs.declared.TheConstants.{SOCKETS}
use Rattle.day_defs.specs.Office.{vlan_of_host}

-- whom something that was sent is about, and what it says
abbrev pub About : Type 0 → Type 0
About A = Option (List ℕ × A)

-- ---- the host is asked for its identity

-- the identifier of a Request for an identity (RFC 3748, 5.1)
abbrev pub identity_in : Result Eap EapDrop → Option ℕ
identity_in (Err drop) = None
identity_in (Ok eap) = if eap.code == 1 && eap.kind == 1 then Some eap.id else None

abbrev pub identity_carried : Result Eapol EapolDrop → Option ℕ
identity_carried (Err drop) = None
identity_carried (Ok eapol) = identity_in (eap_of eapol.body)

abbrev pub identity_asked : Sent → About ℕ
identity_asked (ToHost port octets) = option_map (λ id. (destination octets, id)) (identity_carried (eapol_of (drop 14 octets)))
identity_asked (ToServer socket octets) = None
identity_asked (ToClient to octets) = None

-- ---- the server is asked about a host

-- what the server needs for its answer
abbrev pub question_of : (socket : ℕ) → Packet → Question
question_of socket p = record {
  socket = socket;
  identifier = p.identifier;
  authenticator = p.authenticator;
  response = slice_index (radius.eap_of p.attributes) 1;
}

-- the host that a request is about (RFC 3580, section 3.21)
abbrev pub host_named : Packet → Option (List ℕ)
host_named p = option_and_then station_of (first_value CALLING_STATION_ID p.attributes)

abbrev pub question_in : (socket : ℕ) → Option Packet → About Question
question_in socket None = None
question_in socket (Some p) = option_map (λ address. (address, question_of socket p)) (host_named p)

-- the server answers where the switch can hear it
abbrev pub server_asked : Sent → About Question
server_asked (ToHost port octets) = None
server_asked (ToServer socket octets) = if nat_lt socket SOCKETS then question_in socket (packet_of octets) else None
server_asked (ToClient to octets) = None

-- ---- the last of what was heard

abbrev pub for_host : {A : Type 0} → List ℕ → About A → Option A
for_host address None = None
for_host address (Some x) = if bytes_eq x.0 address then Some x.1 else None

-- what the last of these that is about a host says
abbrev pub last_about : {A : Type 0} → (Sent → About A) → List ℕ → List Sent → Option A
last_about about address [] = None
last_about about address (s ∷ rest) = option_or (last_about about address rest) (for_host address (about s))

-- ---- the answer

abbrev pub attribute : ℕ → List ℕ → Attribute
attribute kind value = record { kind = kind; value = value }

-- an Access-Accept that grants a host its VLAN (RFC 2865, section 4.2; RFC 3580, section 3.31), with the Success for its Response
-- (RFC 3579, section 2.1)
abbrev pub unsigned_accept : ℕ → Question → Packet
unsigned_accept h q = record {
  code = ACCESS_ACCEPT;
  identifier = q.identifier;
  authenticator = q.authenticator;
  attributes =
      attribute TUNNEL_TYPE (four_octets VLAN)
      ∷ attribute TUNNEL_MEDIUM_TYPE (four_octets IEEE_802)
      ∷ attribute TUNNEL_PRIVATE_GROUP_ID (decimal (vlan_of_host h))
      ∷ attribute EAP_MESSAGE (canned true q.response)
      ∷ [];
}

-- the secret that the server shares with the switch
abbrev pub secret : List ℕ
secret = codes "load"

-- a Message-Authenticator before the other attributes, by the request's authenticator (RFC 3579, section 3.2)
abbrev pub signed_accept : ℕ → Question → Packet
signed_accept h q = signed (unsigned_accept h q) q.authenticator secret

-- the Response Authenticator (RFC 2865, section 3)
abbrev pub accept : ℕ → Question → Packet
accept h q =
    let p = signed_accept h q in
    record p { authenticator = response_auth (packet_text p) q.authenticator secret }

unfoldable pub accept_octets : ℕ → Question → List ℕ
accept_octets h q = packet_text (accept h q)
