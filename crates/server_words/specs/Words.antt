-- What an answer says, as the code has it.
use Rattle.std.specs.Prelude.{◌≡◌, ℕ, false, List, Option, Some, None, Ok}
use Rattle.wire_defs.specs.Eap.{canned}
use Rattle.machine_vars.specs.declared.control.Times.{Times}
use Rattle.machine_defs.specs.Words.{event_with}
use Rattle.radius_defs.specs.Packet.{Packet}
use Rattle.radius_defs.specs.declared.Grant.{Grant}
use Rattle.radius_defs.specs.Grant.{grant_of}
use Rattle.radius_packet.specs.Views.{value_in}
use Rattle.aaa_defs.specs.Answer.{Taking}
use Rattle.aaa_defs.specs.Said.{Said, Kept, said, challenged, accepted, rejected, or_else}
use Rattle.switch_defs.specs.Answer.{event_of}
use Rattle.server_words.specs.declared.words.Told.{Told}

-- the new value, or as it was
abbrev pub renewed : Option ℕ → ℕ → ℕ
renewed None was = was
renewed (Some value) was = value

abbrev pub keeps : Told → Kept → Kept
keeps t k = record { vlan = renewed t.vlan k.vlan; state = value_in t.state; end_while = renewed t.end_while k.end_while }

-- it is what was meant, under these times, to a session whose last EAP packet had this identifier and that kept this
pub record Means (t : Told) (meant : Said) (times : Times) (id : ℕ) (k : Kept) : Type 0 where
  pub word : event_with t.verdict id times ≡ event_of meant.word
  pub kept : keeps t k ≡ meant.kept

abbrev pub Says : Told → Taking → (native : ℕ) → Type 0
Says t taking native = (times : Times) (id : ℕ) (k : Kept) → Means t (said taking native times id k) times id k

abbrev pub SaysChallenge : Told → Packet → Option (List ℕ) → Type 0
SaysChallenge t p eap = (times : Times) (id : ℕ) (k : Kept) → Means t (challenged p eap k) times id k

abbrev pub SaysAccept : Told → Packet → Option (List ℕ) → (native : ℕ) → Type 0
SaysAccept t p eap native = (times : Times) (id : ℕ) (k : Kept) → Means t (accepted (grant_of p.attributes native) times id eap k) times id k

abbrev pub SaysGrant : Told → Grant → Option (List ℕ) → Type 0
SaysGrant t g eap = (times : Times) (id : ℕ) (k : Kept) → Means t (accepted (Ok g) times id eap k) times id k

abbrev pub SaysReject : Told → Option (List ℕ) → Type 0
SaysReject t eap = (times : Times) (id : ℕ) (k : Kept) → Means t (rejected (or_else eap (canned false id)) k) times id k
