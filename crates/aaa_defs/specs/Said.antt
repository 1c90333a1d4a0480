-- What an answer that was taken says: to the machines of the session that asked, and to what the session keeps beside them (RFC
-- 2865, section 4; RFC 3580, section 3).
use Rattle.std.specs.Prelude.{ℕ, ◌==◌, nat_le, Bool, true, false, if◌then◌else◌, List, Option, Some, None, Result, Ok, Err}
use Rattle.wire_defs.specs.Eap.{canned}
use Rattle.machine_vars.specs.declared.control.Times.{Times}
use Rattle.radius_defs.specs.declared.Timeout.{Timeout}
use Rattle.radius_defs.specs.declared.Timeout.TheVariants.{Unset, End, Reauth}
use Rattle.radius_defs.specs.declared.Grant.{Grant}
use Rattle.radius_defs.specs.declared.Unfit.{Unfit}
use Rattle.radius_defs.specs.declared.attribute.TheConstants.{STATE, SESSION_TIMEOUT}
use Rattle.radius_defs.specs.declared.code.TheConstants.{ACCESS_ACCEPT, ACCESS_CHALLENGE}
use Rattle.radius_defs.specs.Packet.{Packet, first_value}
use Rattle.radius_defs.specs.Attributes.{first_number}
use Rattle.radius_defs.specs.Grant.{grant_of}
use Rattle.aaa_defs.specs.declared.TheConstants.{MOST_WAIT}
use Rattle.aaa_defs.specs.Answer.{Taking}

-- what the machines are told: to send the host this Request, and how long its response is waited for, with 0 for as long as always;
-- that there is nothing to send; that the host is let in, with this packet, and whether and after how many seconds it is
-- authenticated again; that it is refused, with this packet
pub data Word : Type 0 where
  Challenge : (eap : List ℕ) → (wait : ℕ) → Word
  Notice : Word
  Accept : (eap : List ℕ) → (again : Bool) → (period : ℕ) → Word
  Reject : (eap : List ℕ) → Word

-- what a session keeps beside its machines: the VLAN of its host, the State for its next request, and in how many seconds it ends,
-- with 0 for never
pub record Kept : Type 0 where
  pub vlan : ℕ
  pub state : Option (List ℕ)
  pub end_while : ℕ

pub record Said : Type 0 where
  pub word : Word
  pub kept : Kept

-- a Session-Timeout and its Termination-Action: when the session ends, whether its host is authenticated again, and after how long
-- (RFC 3580, sections 3.17 and 3.19)
abbrev pub end_of : Timeout → ℕ
end_of Unset = 0
end_of (End n) = n
end_of (Reauth n) = 0

abbrev pub again_of : Timeout → Times → Bool
again_of Unset t = t.reauth
again_of (End n) t = t.reauth
again_of (Reauth n) t = true

abbrev pub period_of : Timeout → Times → ℕ
period_of Unset t = t.reauth_period
period_of (End n) t = t.reauth_period
period_of (Reauth n) t = n

-- the EAP packet that came, or else this one
abbrev pub or_else : Option (List ℕ) → List ℕ → List ℕ
or_else None eap = eap
or_else (Some whole) eap = whole

-- the wait that a Challenge names, where it is not too long (RFC 3579, section 2.3; RFC 2869, section 5.6)
abbrev pub wait_of : Option ℕ → ℕ
wait_of None = 0
wait_of (Some n) = if nat_le n MOST_WAIT then n else 0

-- Access-Challenge (RFC 2865, section 4.4): its State, or none, is for the next request
abbrev pub challenge_word : Packet → Option (List ℕ) → Word
challenge_word p None = Notice
challenge_word p (Some eap) = Challenge eap (wait_of (first_number SESSION_TIMEOUT p.attributes))

abbrev pub challenged : Packet → Option (List ℕ) → Kept → Said
challenged p eap k = record { word = challenge_word p eap; kept = record k { state = first_value STATE p.attributes } }

-- Access-Reject (section 4.3), with this EAP packet
abbrev pub rejected : List ℕ → Kept → Said
rejected eap k = record { word = Reject eap; kept = record k { state = None } }

-- Access-Accept (section 4.2); one that grants nothing that can be followed is as a reject (RFC 3580, section 3.31)
abbrev pub accepted : Result Grant Unfit → Times → (current_id : ℕ) → Option (List ℕ) → Kept → Said
accepted (Err unfit) t current_id eap k = rejected (canned false current_id) k
accepted (Ok g) t current_id eap k = record {
  word = Accept (or_else eap (canned true current_id)) (again_of g.timeout t) (period_of g.timeout t);
  kept = record { vlan = g.vlan; state = None; end_while = end_of g.timeout };
}

-- what the answer says, on a port of this native VLAN, under these times, where the last EAP packet to the host had this identifier
-- and the session kept this
abbrev pub said : Taking → (native : ℕ) → Times → (current_id : ℕ) → Kept → Said
said t native times current_id k =
    if t.packet.code == ACCESS_CHALLENGE then challenged t.packet t.eap k
    else if t.packet.code == ACCESS_ACCEPT then accepted (grant_of t.packet.attributes native) times current_id t.eap k
    else rejected (or_else t.eap (canned false current_id)) k
