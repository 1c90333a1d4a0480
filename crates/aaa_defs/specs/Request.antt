-- The Access-Request by which the server is asked about a host (RFC 2865, sections 3, 4.1 and 5; RFC 3579, sections 3.1
-- and 3.2; RFC 3580, section 3).
use Rattle.std.specs.Prelude.{ℕ, zero, suc, ◌+◌, ◌*◌, ◌≤◌, List, [], ◌∷◌, ◌++◌, length, take, drop, map, Option, Some, None, IfSome}
use Rattle.wire_defs.specs.Number.{four_octets}
use Rattle.wire_defs.specs.Station.{station_text}
use Rattle.radius_defs.specs.declared.attribute.TheConstants.{USER_NAME, NAS_IP_ADDRESS, NAS_PORT, SERVICE_TYPE, FRAMED_MTU, STATE, CALLED_STATION_ID, CALLING_STATION_ID, NAS_IDENTIFIER, ACCT_SESSION_ID, NAS_PORT_TYPE, EAP_MESSAGE}
use Rattle.radius_defs.specs.declared.code.TheConstants.{ACCESS_REQUEST}
use Rattle.radius_defs.specs.declared.limit.TheConstants.{MOST_VALUE}
use Rattle.radius_defs.specs.declared.value.TheConstants.{FRAMED, ETHERNET}
use Rattle.radius_defs.specs.Packet.{Attribute, Packet, packet_text}
use Rattle.radius_defs.specs.Attributes.{session_text}
use Rattle.radius_defs.specs.Message.{signed}
use Rattle.aaa_defs.specs.declared.TheConstants.{MOST_EAP, MOST_HOST_EAP}
use Rattle.std.specs.Int.{w32, to_le_bytes}
use Rattle.rand_chacha.specs.ChaCha.{key_of, word_at}
use Rattle.switch_event.specs.Config.{Config}

-- what is asked about a host: the port that it is on, the port's address and the host's, the identity that it gave, the State of
-- the server's last Challenge, and the EAP packet that it sent
pub record Ask : Type 0 where
  pub port : ℕ
  pub own : List ℕ
  pub peer : List ℕ
  pub identity : List ℕ
  pub state : Option (List ℕ)
  pub eap : List ℕ

-- what can be asked: the values of attributes are not too long (RFC 2865, section 5), User-Name has an octet at least (5.1), and an
-- EAP packet came in a frame
pub record IsAsk (a : Ask) : Type 0 where
  pub named : 1 ≤ length a.identity
  pub identity : length a.identity ≤ MOST_VALUE
  pub state : IfSome a.state (λ state. length state ≤ MOST_VALUE)
  pub eap : length a.eap ≤ MOST_HOST_EAP

abbrev pub attribute : ℕ → List ℕ → Attribute
attribute kind value = record { kind = kind; value = value }

-- State, where there is one (RFC 2865, section 5.24)
abbrev pub state_attributes : Option (List ℕ) → List Attribute
state_attributes None = []
state_attributes (Some state) = attribute STATE state ∷ []

-- the octets in pieces that a value has room for, the last one shorter; at most so many pieces
abbrev pub pieces_within : ℕ → List ℕ → List (List ℕ)
pieces_within n [] = []
pieces_within zero (octet ∷ rest) = []
pieces_within (suc n) (octet ∷ rest) = take MOST_VALUE (octet ∷ rest) ∷ pieces_within n (drop MOST_VALUE (octet ∷ rest))

-- an EAP packet is cut into pieces (RFC 3579, section 3.1)
unfoldable pub pieces : List ℕ → List (List ℕ)
pieces octets = pieces_within (length octets) octets

-- Request Authenticator k, from 0 on, of a seed (RFC 2865, section 3): four words of the key stream of ChaCha20 (RFC 8439, section
-- 2.4) under the seed, those at 4 k to 4 k + 3 of stream 0, each least octet first
abbrev pub seed_word : List ℕ → ℕ → List ℕ
seed_word seed place = to_le_bytes w32 (word_at 10 (key_of seed) 0 place)

unfoldable pub authenticator : List ℕ → ℕ → List ℕ
authenticator seed k = seed_word seed (4 * k) ++ seed_word seed (4 * k + 1) ++ seed_word seed (4 * k + 2) ++ seed_word seed (4 * k + 3)

-- the attributes of the request behind its Message-Authenticator, in order
abbrev pub request_attributes : Config → Ask → ℕ → List Attribute
request_attributes c a session =
    attribute USER_NAME a.identity  -- RFC 3580, section 3.1
    ∷ attribute NAS_IP_ADDRESS c.nas.ip  -- 3.3
    ∷ attribute NAS_PORT (four_octets a.port)  -- 3.4
    ∷ attribute SERVICE_TYPE (four_octets FRAMED)  -- 3.5
    ∷ attribute FRAMED_MTU (four_octets MOST_EAP)  -- 3.10
    ∷ attribute CALLED_STATION_ID (station_text a.own)  -- 3.20
    ∷ attribute CALLING_STATION_ID (station_text a.peer)  -- 3.21
    ∷ attribute NAS_IDENTIFIER c.nas.name  -- 3.22
    ∷ attribute NAS_PORT_TYPE (four_octets ETHERNET)  -- 3.23
    ∷ attribute ACCT_SESSION_ID (session_text session)  -- RFC 2866, section 5.5
    ∷ state_attributes a.state  -- RFC 3580, section 3.15
    ++ map (attribute EAP_MESSAGE) (pieces a.eap)  -- 3.27

-- the request before it is signed
abbrev pub unsigned_request : Config → Ask → ℕ → ℕ → List ℕ → Packet
unsigned_request c a session identifier auth =
    record { code = ACCESS_REQUEST; identifier = identifier; authenticator = auth; attributes = request_attributes c a session }

-- the octets of the request, which is signed under its own authenticator
unfoldable pub request_octets : Config → Ask → ℕ → ℕ → List ℕ → List ℕ
request_octets c a session identifier auth = packet_text (signed (unsigned_request c a session identifier auth) auth c.secret)
