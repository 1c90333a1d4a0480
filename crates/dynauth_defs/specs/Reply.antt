-- The reply to a Disconnect-Request or a CoA-Request (RFC 5176, sections 2.3, 3 and 3.5).
use Rattle.std.specs.Prelude.{ℕ, ◌+◌, List, [], ◌∷◌, ◌++◌, Option, Some, None}
use Rattle.wire_defs.specs.Number.{four_octets}
use Rattle.radius_defs.specs.declared.attribute.TheConstants.{PROXY_STATE, ERROR_CAUSE}
use Rattle.radius_defs.specs.Packet.{Attribute, Packet, packet_text, those_of}
use Rattle.radius_defs.specs.Digest.{response_auth}
use Rattle.radius_defs.specs.Message.{signed}

-- the code of the ACK, or of the NAK where there is a cause: the two codes behind that of the request (section 2.3)
abbrev pub reply_code : (request : ℕ) → (cause : Option ℕ) → ℕ
reply_code request None = request + 1
reply_code request (Some cause) = request + 2

-- Error-Cause, in a NAK (section 3.5)
abbrev pub error_cause : Option ℕ → List Attribute
error_cause None = []
error_cause (Some cause) = record { kind = ERROR_CAUSE; value = four_octets cause } ∷ []

-- what the reply says: the request's identifier and, for now, its authenticator; Error-Cause; and every Proxy-State of the
-- request, in its order (RFC 2865, section 5.33)
abbrev pub unsigned_reply : Packet → Option ℕ → Packet
unsigned_reply request cause = record {
  code = reply_code request.code cause;
  identifier = request.identifier;
  authenticator = request.authenticator;
  attributes = error_cause cause ++ those_of PROXY_STATE request.attributes;
}

-- Message-Authenticator before the other attributes, by the request's authenticator (section 3.4)
abbrev pub signed_reply : Packet → Option ℕ → (secret : List ℕ) → Packet
signed_reply request cause secret = signed (unsigned_reply request cause) request.authenticator secret

-- the Response Authenticator, by the request's authenticator (section 2.3)
abbrev pub reply_packet : Packet → Option ℕ → (secret : List ℕ) → Packet
reply_packet request cause secret =
    let p = signed_reply request cause secret in
    record p { authenticator = response_auth (packet_text p) request.authenticator secret }

-- the octets of the reply; where there is no cause it is an ACK
abbrev pub reply_octets : Packet → Option ℕ → (secret : List ℕ) → List ℕ
reply_octets request cause secret = packet_text (reply_packet request cause secret)
