-- The number of the line at which something is dropped.
use Rattle.std.specs.Prelude.{ℕ}
use Rattle.switch_event.specs.declared.drop.FrameDrop.{FrameDrop}
use Rattle.switch_event.specs.declared.drop.FrameDrop.TheVariants as frame
use Rattle.switch_event.specs.declared.drop.AaaDrop.{AaaDrop}
use Rattle.switch_event.specs.declared.drop.AaaDrop.TheVariants as answer
use Rattle.switch_event.specs.declared.drop.DynDrop.{DynDrop}
use Rattle.switch_event.specs.declared.drop.DynDrop.TheVariants as request

-- of the list for frames (IEEE Std 802.1X-2004, 7.5 and 7.8; RFC 3748, section 4)
abbrev pub frame_line : FrameDrop → ℕ
frame_line frame.Elsewhere = 1
frame_line frame.GroupSource = 2
frame_line frame.Down = 3
frame_line frame.EapolShort = 4
frame_line frame.Key = 5
frame_line frame.EapolType = 6
frame_line frame.BodyShort = 7
frame_line frame.EapShort = 8
frame_line frame.EapCode = 9
frame_line frame.EapLength = 10
frame_line frame.NotResponse = 11
frame_line frame.Forced = 12
frame_line frame.NoSession = 13
frame_line frame.PortFull = 14

-- of the checks of an answer of the RADIUS server (RFC 2865, sections 3 and 4; RFC 3579, sections 2 and 3)
abbrev pub answer_line : AaaDrop → ℕ
answer_line answer.Malformed = 1
answer_line answer.NoRequest = 2
answer_line answer.BadCode = 3
answer_line answer.BadAuthenticator = 4
answer_line answer.BadMessageAuth = 5
answer_line answer.Oversize = 6
answer_line answer.BadEap = 7

-- of the nineteen by which a dynamic request is judged: 7 is that of a repeat (RFC 5176, sections 2, 3 and 6)
abbrev pub request_line : DynDrop → ℕ
request_line request.Stranger = 1
request_line request.Malformed = 2
request_line request.Oversize = 3
request_line request.BadCode = 4
request_line request.BadAuthenticator = 5
request_line request.BadMessageAuth = 6
request_line request.Stale = 8
