-- The text that is printed for records.
use Rattle.std.specs.Prelude.{ℕ, ◌==◌, if◌then◌else◌, List, [], ◌∷◌, ◌++◌, codes}
use Rattle.std.specs.List.{concat, flat_map}
use Rattle.std.specs.Fmt.{decimal}
use Rattle.hex.specs.Hex.{encode_lower}
use Rattle.wire_defs.specs.Ethernet.{tagged}
use Rattle.switch_event.specs.declared.drop.FrameDrop.{FrameDrop}
use Rattle.switch_event.specs.declared.drop.FrameDrop.TheVariants as frame
use Rattle.switch_event.specs.declared.drop.AaaDrop.{AaaDrop}
use Rattle.switch_event.specs.declared.drop.AaaDrop.TheVariants as answer
use Rattle.switch_event.specs.declared.drop.DynDrop.{DynDrop}
use Rattle.switch_event.specs.declared.drop.DynDrop.TheVariants as request
use Rattle.switch_event.specs.declared.event.Outcome.{Outcome}
use Rattle.switch_event.specs.declared.event.Outcome.TheVariants.{Done, FrameDropped, AnswerDropped, Acked, Naked, Again, RequestDropped}
use Rattle.switch_event.specs.Sent.{Sent, ToHost, ToServer, ToClient}
use Rattle.trace_defs.specs.Text.{dotted}
use Rattle.switch_event.specs.declared.decision.Decision.{Decision}
use Rattle.switch_event.specs.declared.decision.Decision.TheVariants.{Forward, Drop}
use Rattle.switch_event.specs.declared.decision.Drop9.{Drop9}
use Rattle.switch_event.specs.declared.decision.Drop9.TheVariants.{Runt, Giant, Control as IsControl, Reserved, Tagged, GroupSource, Down, Closed, Unauthorised}

abbrev pub line_feed : List ℕ
line_feed = 10 ∷ []

-- the socket of a packet to the server, which is left out where it is the first
abbrev pub socket_text : ℕ → List ℕ
socket_text socket = if socket == 0 then [] else decimal socket ++ codes " "

-- `f PORT OCTETS`, `r OCTETS` or `r SOCKET OCTETS`, `y IP PORT OCTETS`
abbrev pub sent_line : Sent → List ℕ
sent_line (ToHost port octets) =
    concat (codes "f " ∷ decimal port ∷ codes " " ∷ encode_lower octets ∷ line_feed ∷ [])
sent_line (ToServer socket octets) =
    concat (codes "r " ∷ socket_text socket ∷ encode_lower octets ∷ line_feed ∷ [])
sent_line (ToClient to octets) =
    concat (
    codes "y " ∷ dotted to.ip ∷ codes " " ∷ decimal to.port ∷ codes " " ∷ encode_lower octets
    ∷ line_feed ∷ []
    )

abbrev pub sent_lines : List Sent → List ℕ
sent_lines sent = flat_map sent_line sent

-- why a frame of a host is dropped
abbrev pub frame_drop : FrameDrop → List ℕ
frame_drop frame.Elsewhere = codes "elsewhere"
frame_drop frame.GroupSource = codes "group-source"
frame_drop frame.Down = codes "down"
frame_drop frame.EapolShort = codes "eapol-short"
frame_drop frame.Key = codes "key"
frame_drop frame.EapolType = codes "eapol-type"
frame_drop frame.BodyShort = codes "body-short"
frame_drop frame.EapShort = codes "eap-short"
frame_drop frame.EapCode = codes "eap-code"
frame_drop frame.EapLength = codes "eap-length"
frame_drop frame.NotResponse = codes "not-response"
frame_drop frame.Forced = codes "forced"
frame_drop frame.NoSession = codes "no-session"
frame_drop frame.PortFull = codes "port-full"

-- why an answer of the RADIUS server is dropped
abbrev pub answer_drop : AaaDrop → List ℕ
answer_drop answer.Malformed = codes "malformed"
answer_drop answer.NoRequest = codes "no-request"
answer_drop answer.BadCode = codes "bad-code"
answer_drop answer.BadAuthenticator = codes "bad-authenticator"
answer_drop answer.BadMessageAuth = codes "bad-message-auth"
answer_drop answer.Oversize = codes "oversize"
answer_drop answer.BadEap = codes "bad-eap"

-- why a dynamic request is dropped
abbrev pub request_drop : DynDrop → List ℕ
request_drop request.Stranger = codes "stranger"
request_drop request.Malformed = codes "malformed"
request_drop request.Oversize = codes "oversize"
request_drop request.BadCode = codes "bad-code"
request_drop request.BadAuthenticator = codes "bad-authenticator"
request_drop request.BadMessageAuth = codes "bad-message-auth"
request_drop request.Stale = codes "stale"

abbrev pub outcome_text : Outcome → List ℕ
outcome_text Done = codes "ok"
outcome_text (FrameDropped why) = codes "drop " ++ frame_drop why
outcome_text (AnswerDropped why) = codes "drop " ++ answer_drop why
outcome_text Acked = codes "ack"
outcome_text (Naked cause) = codes "nak " ++ decimal cause
outcome_text Again = codes "again"
outcome_text (RequestDropped why) = codes "drop " ++ request_drop why

-- `c RECORD @LANE SERIAL OUTCOME`
abbrev pub control_line : ℕ → ℕ → ℕ → Outcome → List ℕ
control_line number lane serial outcome =
    concat (
    codes "c " ∷ decimal number ∷ codes " @" ∷ decimal lane ∷ codes " " ∷ decimal serial ∷ codes " "
    ∷ outcome_text outcome ∷ line_feed ∷ []
    )

-- the block of a control record
abbrev pub control_block : ℕ → ℕ → ℕ → Outcome → List Sent → List ℕ
control_block number lane serial outcome sent =
    control_line number lane serial outcome ++ sent_lines sent

abbrev pub drop_name : Drop9 → List ℕ
drop_name Runt = codes "runt"
drop_name Giant = codes "giant"
drop_name IsControl = codes "control"
drop_name Reserved = codes "reserved"
drop_name Tagged = codes "tagged"
drop_name GroupSource = codes "group-source"
drop_name Down = codes "down"
drop_name Closed = codes "closed"
drop_name Unauthorised = codes "unauthorised"

-- `d RECORD FRONT drop NAME`, or, with the frame that goes out,
-- `d RECORD FRONT forward SESSION VLAN OCTETS`
abbrev pub data_line : ℕ → ℕ → Decision → List ℕ → List ℕ
data_line number front (Drop why) out =
    concat (
    codes "d " ∷ decimal number ∷ codes " " ∷ decimal front ∷ codes " drop " ∷ drop_name why
    ∷ line_feed ∷ []
    )
data_line number front (Forward session vlan) out =
    concat (
    codes "d " ∷ decimal number ∷ codes " " ∷ decimal front ∷ codes " forward " ∷ decimal session
    ∷ codes " "
    ∷ decimal vlan ∷ codes " " ∷ encode_lower out ∷ line_feed ∷ []
    )

-- the frame that goes out
abbrev pub forwarded : Decision → List ℕ → List ℕ
forwarded (Drop why) frame = []
forwarded (Forward session vlan) frame = tagged vlan frame

-- the block of a data record
abbrev pub data_block : ℕ → ℕ → Decision → List ℕ → List ℕ
data_block number front decision frame = data_line number front decision (forwarded decision frame)
