-- What reading a frame of a host answers.
use Rattle.std.specs.Prelude.{◌≤◌, length, Result, Ok, Err}
use Rattle.machine_defs.specs.Live as live
use Rattle.switch_event.specs.declared.drop.FrameDrop.{FrameDrop}
use Rattle.switch_defs.specs.Switch.{Port, State}
use Rattle.switch_defs.specs.Turn.{FrameCase, Dropped, control_case}
use Rattle.host_frames.specs.declared.heard.Said.{Said}
use Rattle.host_frames.specs.declared.heard.Said.TheVariants.{Start, Logoff, Packet}
use Rattle.host_frames.specs.declared.heard.Heard.{Heard}

-- what a host says is an event of its machines
abbrev pub event_of : Said → live.Event
event_of Start = live.Start
event_of Logoff = live.Logoff
event_of (Packet eap) = live.Packet eap.now

-- the frame is dropped, or its port's control is looked at
abbrev pub case_of : State → Port → Result Heard FrameDrop → FrameCase
case_of s q (Ok h) = control_case s q h.from.0 (event_of h.said)
case_of s q (Err why) = Dropped why

abbrev pub IsShort : Said → Type 0
IsShort Start = Unit {0}
IsShort Logoff = Unit {0}
IsShort (Packet eap) = length eap.now ≤ 1500
