-- Control events that own their octets, as the definitions of the switch have them.
use Rattle.switch_event.specs.Event.{Happening, Frame, Radius, Dynamic, Second, Link, SetControl}
use Rattle.event_record.specs.declared.record.Record.{Record}
use Rattle.event_record.specs.declared.record.Record.TheVariants as recorded

abbrev pub event_of : Record → Happening
event_of (recorded.Frame port octets) = Frame port octets
event_of (recorded.Radius socket octets) = Radius socket octets
event_of (recorded.Dynamic from octets) = Dynamic (record { ip = from.ip; port = from.port }) octets
event_of recorded.Second = Second
event_of (recorded.Link port up) = Link port up
event_of (recorded.SetControl port control) = SetControl port control
