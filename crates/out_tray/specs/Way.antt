-- Where the octets of a thing that is sent go.
use Rattle.std.specs.Prelude.{ℕ, List}
use Rattle.switch_event.specs.Sent.{Sent, ToHost, ToServer, ToClient}
use Rattle.out_tray.specs.declared.way.Way.{Way}
use Rattle.out_tray.specs.declared.way.Way.TheVariants as way

-- octets that go a way
abbrev pub sent_by : Way → List ℕ → Sent
sent_by (way.Frame port) octets = ToHost port octets
sent_by (way.Radius socket) octets = ToServer socket octets
sent_by (way.Reply to) octets = ToClient to octets
