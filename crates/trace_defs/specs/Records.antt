-- Which records lines can say.
use Rattle.std.proofs.Common.{◌≡◌, ℕ, ◌≤◌, true, false, List, [], ◌∷◌}
use Rattle.wire_defs.specs.Ethernet.{is_control}
use Rattle.switch_event.specs.Config.{Config, has_port}
use Rattle.switch_event.specs.Event.{Happening, Frame, Radius, Dynamic, Second, Link, SetControl}
use Rattle.trace_defs.specs.Line.{Record}
use Rattle.trace_defs.specs.Line.Record.{Control, Data}
use Rattle.trace_defs.specs.Sized.{IsAddress, IsSized}

-- a port of the settings
pub record IsPort (config : Config) (port : ℕ) : Type 0 where
  pub low : 1 ≤ port
  pub high : port ≤ 60
  pub known : has_port port config ≡ true

abbrev pub IsEvent : Config → Happening → Type 0
IsEvent config (Frame port octets) = IsPort config port × IsSized 0 2000 octets × (is_control octets ≡ true)
IsEvent config (Radius socket octets) = (socket ≤ 4) × IsSized 0 5000 octets
IsEvent config (Dynamic from octets) = IsAddress from.ip × (from.port ≤ 65535) × IsSized 0 5000 octets
IsEvent config Second = Unit {0}
IsEvent config (Link port up) = IsPort config port
IsEvent config (SetControl port control) = IsPort config port

-- a record that a line can write under these settings
abbrev pub IsRecord : Config → Record → Type 0
IsRecord config (Control lane event) = (1 ≤ lane) × (lane ≤ 3) × IsEvent config event
IsRecord config (Data port octets) = IsPort config port × IsSized 0 2000 octets × (is_control octets ≡ false)

abbrev pub AreRecords : Config → List Record → Type 0
AreRecords config [] = Unit {0}
AreRecords config (r ∷ rest) = IsRecord config r × AreRecords config rest
