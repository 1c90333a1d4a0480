-- The list of lines at a datagram of a known client.
use Rattle.std.proofs.Common.{◌≡◌, ℕ, true, false, length, List, Some, None, Err, refl, sym, ap, subst, ◌∙◌}
use Rattle.std.specs.Prelude.{nat_lt}
use Rattle.std.specs.Str.{bytes_eq}
use Rattle.radius_defs.specs.declared.RadDrop.{RadDrop}
use Rattle.radius_defs.specs.declared.attribute.TheConstants.{EVENT_TIMESTAMP}
use Rattle.radius_defs.specs.Packet.{Packet, packet_text, IsPacket, PacketOf}
use Rattle.radius_defs.specs.Digest.{zeros, request_auth}
use Rattle.radius_defs.specs.Message.{message_state_of}
use Rattle.radius_defs.specs.Attributes.{first_number}
use Rattle.radius_defs.proofs.ParsedLemmas.{packet-of-some, packet-of-none}
use Rattle.kept_defs.specs.Kept.{Entry, newest_reply}
use Rattle.switch_event.specs.Config.{Config, Client}
use Rattle.wire_core.specs.declared.address.Addr.{Addr}
use Rattle.dynauth_defs.specs.declared.TheConstants.{MOST_REQUEST}
use Rattle.switch_event.specs.declared.drop.DynDrop.TheVariants.{Malformed, BadAuthenticator, BadMessageAuth, Stale}
use Rattle.dynauth_defs.specs.Session.{Row, matching}
use Rattle.dynauth_defs.specs.Judge.{Judged, Drop, Again, judged, client_of, is_dynamic, is_untrue, is_far, first_line, lines, done}
use Rattle.dynauth_defs.specs.Answered.{GetsReply, IsAnswered}
use Rattle.dynauth_server.specs.Lines.{refusals}
use Rattle.dynauth_defs.proofs.AnsweredLemmas.{answered_requests}

module _ (config : Config) (kept : List (List Entry)) (now : ℕ) (rows : List Row) (from : Addr) (octets : List ℕ) (clients : List Client) (client : Client) (replies : List Entry)
    (clients-are : clients ≡ config.clients) (known : client_of from.ip clients kept ≡ Some (client, replies)) where
  found : client_of from.ip config.clients kept ≡ Some (client, replies)
  found = ap (λ (cs : List Client). client_of from.ip cs kept) (sym clients-are) ∙ known

  -- a packet is judged by the first of lines 3 to 19 that applies
  pub judged-packet : (p : Packet) → IsPacket octets p
      → judged config kept now rows from octets ≡ first_line (lines config client replies now rows from.port p) (done p (matching p.attributes rows))
  judged-packet p packet = rw (found, packet-of-some octets p packet) refl

  pub judged-malformed : (e : RadDrop) → PacketOf octets (Err e) → Drop Malformed ≡ judged config kept now rows from octets
  judged-malformed e broken = rw (found, packet-of-none octets e broken) refl

-- a packet of a client, by what is known of it
module _ (config : Config) (client : Client) (replies : List Entry) (now : ℕ) (rows : List Row) (port : ℕ) (p : Packet)
    (long : nat_lt MOST_REQUEST (length (packet_text p)) ≡ false) (dynamic : is_dynamic p.code ≡ true) where
  abbrev whole : Judged
  whole = first_line (lines config client replies now rows port p) (done p (matching p.attributes rows))

  pub to-bad-auth : bytes_eq p.authenticator (request_auth (packet_text p) client.secret) ≡ false → Drop BadAuthenticator ≡ whole
  to-bad-auth auth = rw (long, dynamic, auth) refl

  module _ (auth : bytes_eq p.authenticator (request_auth (packet_text p) client.secret) ≡ true) where
    pub to-bad-message : is_untrue config.require_ma (message_state_of p (zeros 16) client.secret) ≡ true → Drop BadMessageAuth ≡ whole
    to-bad-message untrue = rw (long, dynamic, auth, untrue) refl

    module _ (message : is_untrue config.require_ma (message_state_of p (zeros 16) client.secret) ≡ false) where
      pub to-again : (reply : List ℕ) → newest_reply port (packet_text p) now replies ≡ Some reply → Again reply ≡ whole
      to-again reply kept = rw (long, dynamic, auth, message, kept) refl

      module _ (new : newest_reply port (packet_text p) now replies ≡ None) where
        pub to-stale : is_far now config.window (first_number EVENT_TIMESTAMP p.attributes) ≡ true → Drop Stale ≡ whole
        to-stale far = rw (long, dynamic, auth, message, new, far) refl

        -- lines 9 to 19 are left
        pub to-refusals : is_far now config.window (first_number EVENT_TIMESTAMP p.attributes) ≡ false
            → first_line (refusals config rows p) (done p (matching p.attributes rows)) ≡ whole
        to-refusals near = rw (long, dynamic, auth, message, new, near) refl

-- what is judged so is a request that can be replied to
pub request-of : (config : Config) (kept : List (List Entry)) (now : ℕ) (rows : List Row) (from : Addr) (octets : List ℕ) (j : Judged)
    → j ≡ judged config kept now rows from octets → GetsReply j → IsAnswered config kept from octets
request-of config kept now rows from octets j is gets = answered_requests config kept now rows from octets (subst GetsReply is gets)
