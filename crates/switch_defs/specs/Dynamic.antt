-- Dynamic requests (RFC 5176): what they name, what they do, and the replies that are kept.
use Rattle.std.specs.Prelude.{ℕ, false, if◌then◌else◌, List, [], ◌∷◌, map, Option, None, Some}
use Rattle.std.specs.Str.{bytes_eq}
use Rattle.machine_defs.specs.Live.{set, Change as TimesChange}
use Rattle.radius_defs.specs.declared.Timeout.{Timeout}
use Rattle.radius_defs.specs.declared.Timeout.TheVariants.{Unset, End, Reauth}
use Rattle.radius_defs.specs.Packet.{Packet, packet_text}
use Rattle.radius_defs.specs.Parsed.{packet_of}
use Rattle.wire_defs.specs.Eap.{canned}
use Rattle.kept_defs.specs.Kept.{Entry, with_newest}
use Rattle.switch_event.specs.Config.{Client}
use Rattle.wire_core.specs.declared.address.Addr.{Addr}
use Rattle.dynauth_defs.specs.declared.Action.{Action}
use Rattle.dynauth_defs.specs.declared.Action.TheVariants.{Disconnect, Change}
use Rattle.dynauth_defs.specs.Session.{Row}
use Rattle.dynauth_defs.specs.Judge.{Judged, judged}
use Rattle.dynauth_defs.specs.Reply.{reply_octets}
use Rattle.switch_event.specs.Sent.{Sent, ToClient}
use Rattle.switch_event.specs.Frames.{to_peer}
use Rattle.switch_defs.specs.Switch.{Standing, Session, State, Did, only, session_numbered}
use Rattle.switch_defs.specs.Session.{place, close}
use Rattle.aaa_defs.specs.Said.{end_of, again_of, period_of}

-- ---- what a request can know sessions by

-- an identity is some octets, or none was given
abbrev pub some_octets : List ℕ → Option (List ℕ)
some_octets [] = None
some_octets (octet ∷ rest) = Some (octet ∷ rest)

abbrev pub row_of : Session → Row
row_of y = record {
  number = y.host.number;
  port = y.host.port;
  address = y.host.address;
  identity = some_octets y.standing.vars.identity.items;
  authorised = y.standing.vars.auth_port_status;
}

abbrev pub judged_on : State → Addr → List ℕ → Judged
judged_on s from octets = judged s.config s.kept s.clock (map row_of s.sessions) from octets

-- ---- what a request does

-- a host is told that it is let go (RFC 3748, 4.2)
abbrev pub say_failure : Standing → Sent
say_failure x = to_peer x.vars (canned false x.vars.current_id)

abbrev pub vlan_or : Option ℕ → Standing → Standing
vlan_or None x = x
vlan_or (Some vlan) x = record x { vlan = vlan }

-- the times that a change sets; settling takes no row then
abbrev pub times_or : Timeout → State → Standing → Standing
times_or Unset s x = x
times_or (End n) s x = record x { end_while = end_of (End n); vars = set (TimesChange (again_of (End n) s.config.times) (period_of (End n) s.config.times)) x.vars }
times_or (Reauth n) s x = record x { end_while = end_of (Reauth n); vars = set (TimesChange (again_of (Reauth n) s.config.times) (period_of (Reauth n) s.config.times)) x.vars }

abbrev pub disconnected : Option Session → State → Did
disconnected None s = only s
disconnected (Some y) s = record { state = close y.host s; sent = say_failure y.standing ∷ [] }

abbrev pub changed : Option ℕ → Timeout → Option Session → State → Did
changed vlan timeout None s = only s
changed vlan timeout (Some y) s = only (place y.host (times_or timeout s (vlan_or vlan y.standing)) s)

-- Disconnect-Request and CoA-Request (sections 2.1 and 2.2)
abbrev pub act : Action → State → Did
act (Disconnect number) s = disconnected (session_numbered number s) s
act (Change number vlan timeout) s = changed vlan timeout (session_numbered number s) s

-- ---- replies

-- of the clients the first with this address
abbrev pub secret_of : List ℕ → List Client → List ℕ
secret_of ip [] = []
secret_of ip (c ∷ cs) = if bytes_eq c.ip ip then c.secret else secret_of ip cs

-- a reply is kept as the newest of its client
abbrev pub keep_for : List ℕ → Entry → List Client → List (List Entry) → List (List Entry)
keep_for ip e [] ks = ks
keep_for ip e (c ∷ cs) [] = []
keep_for ip e (c ∷ cs) (k ∷ ks) = if bytes_eq c.ip ip then with_newest e k ∷ ks else k ∷ keep_for ip e cs ks

abbrev pub reply_with : Packet → Option ℕ → Addr → State → Did
reply_with request cause from s =
    let reply = reply_octets request cause (secret_of from.ip s.config.clients) in
    record {
      state = record s { kept = keep_for from.ip (record { moment = s.clock; sport = from.port; request = packet_text request; reply = reply }) s.config.clients s.kept };
      sent = ToClient from reply ∷ [];
    }

-- the reply to a request that is one: an ACK, or a NAK with its cause (section 3.5). It is kept
abbrev pub reply_to : Option Packet → Option ℕ → Addr → State → Did
reply_to None cause from s = only s
reply_to (Some request) cause from s = reply_with request cause from s

abbrev pub reply : List ℕ → Option ℕ → Addr → State → Did
reply octets cause from s = reply_to (packet_of octets) cause from s
