-- The lines of the list that only ask what a request says, and not who sent it and when.
use Rattle.std.specs.Prelude.{ℕ, Bool, List, [], drop, Result, Ok, Err}
use Rattle.radius_defs.specs.Packet.{Packet}
use Rattle.switch_event.specs.Config.{Config, Client}
use Rattle.dynauth_defs.specs.declared.Action.{Action}
use Rattle.dynauth_defs.specs.Session.{Row}
use Rattle.dynauth_defs.specs.Judge.{Judged, Nak, Ack, lines}

-- no client
abbrev pub nobody : Client
nobody = record { ip = []; secret = [] }

-- lines 9 to 18: they are the same for every client, kept replies, moment and port
abbrev pub refusals : Config → List Row → Packet → List (Bool × Judged)
refusals config rows p = drop 6 (lines config nobody [] 0 rows 0 p)

-- an Error-Cause, or what is done
abbrev pub answered : Result Action ℕ → Judged
answered (Ok action) = Ack action
answered (Err cause) = Nak cause
