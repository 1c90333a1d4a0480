-- Which events may come.
use Rattle.std.specs.Prelude.{◌≡◌, ◌≤◌, true, ℕ}
use Rattle.wire_defs.specs.Ethernet.{is_control}
use Rattle.switch_event.specs.Config.{Config, has_port}
use Rattle.switch_event.specs.Event.{Happening, Frame, Radius, Dynamic, Second, Link, SetControl}

-- the last of the sockets to which the RADIUS server may answer
abbrev pub last_socket : ℕ
last_socket = 4

-- a control event of a switch with these settings: on a port that is configured, a frame of EAPOL where it is one, a datagram at a
-- socket that there is
abbrev pub IsEvent : Config → Happening → Type 0
IsEvent c (Frame port octets) = (has_port port c ≡ true) × (is_control octets ≡ true)
IsEvent c (Radius socket octets) = socket ≤ last_socket
IsEvent c (Dynamic from octets) = Unit {0}
IsEvent c Second = Unit {0}
IsEvent c (Link port up) = has_port port c ≡ true
IsEvent c (SetControl port control) = has_port port c ≡ true
