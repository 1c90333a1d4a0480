-- What happens to the switch.
use Rattle.std.specs.Prelude.{ℕ, Bool, List}
use Rattle.machine_vars.specs.declared.control.Control.{Control}
use Rattle.wire_core.specs.declared.address.Addr.{Addr}
use Rattle.switch_event.specs.declared.event.Event.{Event}
use Rattle.switch_event.specs.declared.event.Event.TheVariants as event

-- a control event: a frame from a host, a datagram of the RADIUS server to a socket, a dynamic request, a second, a change of a link, a
-- change of a port's control
pub data Happening : Type 0 where
  Frame : (port : ℕ) → (octets : List ℕ) → Happening
  Radius : (socket : ℕ) → (octets : List ℕ) → Happening
  Dynamic : (from : Addr) → (octets : List ℕ) → Happening
  Second : Happening
  Link : (port : ℕ) → (up : Bool) → Happening
  SetControl : (port : ℕ) → (control : Control) → Happening

abbrev pub happening : Event → Happening
happening (event.Frame port octets) = Frame port octets.now
happening (event.Radius socket octets) = Radius socket octets.now
happening (event.Dynamic from octets) = Dynamic from octets.now
happening event.Second = Second
happening (event.Link port up) = Link port up
happening (event.SetControl port control) = SetControl port control
