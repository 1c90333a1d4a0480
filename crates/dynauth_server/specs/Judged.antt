-- What contracts see of how a request is judged.
use Rattle.std.specs.Prelude.{ℕ, ◌≤◌, List, length}
use Rattle.radius_defs.specs.declared.limit.TheConstants.{MOST_OCTETS}
use Rattle.dynauth_server.specs.declared.judged.Judged.{Judged}
use Rattle.dynauth_server.specs.declared.judged.Judged.TheVariants as judged
use Rattle.dynauth_defs.specs.Judge as defs
use Rattle.dynauth_defs.specs.Session.{Row}
use Rattle.dynauth_defs.specs.Answered.{IsDone}

abbrev pub judged_in : Judged → defs.Judged
judged_in (judged.Drop reason) = defs.Drop reason
judged_in (judged.Again reply) = defs.Again reply.now
judged_in (judged.Nak cause) = defs.Nak cause
judged_in (judged.Ack action) = defs.Ack action

-- a reply that is given again is one that was sent, and so a packet's octets (RFC 2865, section 3)
abbrev pub FitsAgain : Judged → Type 0
FitsAgain (judged.Drop reason) = Unit {0}
FitsAgain (judged.Again reply) = length reply.now ≤ MOST_OCTETS
FitsAgain (judged.Nak cause) = Unit {0}
FitsAgain (judged.Ack action) = Unit {0}

-- what is acknowledged is done
abbrev pub FitsAck : List Row → (octets : List ℕ) → Judged → Type 0
FitsAck rows octets (judged.Drop reason) = Unit {0}
FitsAck rows octets (judged.Again reply) = Unit {0}
FitsAck rows octets (judged.Nak cause) = Unit {0}
FitsAck rows octets (judged.Ack action) = IsDone rows octets action
