-- The text of settings and of records, as they are printed: each a line of words.
use Rattle.std.specs.Prelude.{ℕ, ◌==◌, if◌then◌else◌, Bool, true, false, List, [], ◌∷◌, ◌++◌, map, codes}
use Rattle.std.specs.List.{flat_map}
use Rattle.std.specs.Fmt.{decimal}
use Rattle.hex.specs.Hex.{encode_lower}
use Rattle.machine_vars.specs.declared.control.Control.{Control as PortControl}
use Rattle.machine_vars.specs.declared.control.Control.TheVariants.{Auto, ForceAuth, ForceUnauth}
use Rattle.machine_vars.specs.declared.control.Times.{Times}
use Rattle.wire_core.specs.declared.address.Addr.{Addr}
use Rattle.switch_event.specs.declared.config.PortConf.{PortConf}
use Rattle.switch_event.specs.Config.{Config, Client}
use Rattle.switch_event.specs.Event.{Happening, Frame, Radius, Dynamic, Second, Link, SetControl}
use Rattle.trace_defs.specs.declared.keyword.OtherVlan.{OtherVlan}
use Rattle.trace_defs.specs.declared.keyword.OtherVlan.TheVariants.{Restricted, Guest}
use Rattle.trace_defs.specs.Line.{Record, other_vlan}
use Rattle.trace_defs.specs.Line.Record.{Control, Data}

-- words with a space between each two
abbrev pub spaced : List (List ℕ) → List ℕ
spaced [] = []
spaced (word ∷ more) = word ++ flat_map (λ next. 32 ∷ next) more

-- a line of words, with its line feed
abbrev pub text_line : List (List ℕ) → List ℕ
text_line words = spaced words ++ 10 ∷ []

-- numbers with a full stop between each two
abbrev pub dotted : List ℕ → List ℕ
dotted [] = []
dotted (n ∷ more) = decimal n ++ flat_map (λ m. 46 ∷ decimal m) more

-- octets that may be none
abbrev pub octets_text : List ℕ → List ℕ
octets_text [] = codes "-"
octets_text (octet ∷ rest) = encode_lower (octet ∷ rest)

abbrev pub control_text : PortControl → List ℕ
control_text Auto = codes "auto"
control_text ForceAuth = codes "force-auth"
control_text ForceUnauth = codes "force-unauth"

abbrev pub link_text : Bool → List ℕ
link_text true = codes "up"
link_text false = codes "down"

abbrev pub switch_text : Bool → List ℕ
switch_text true = codes "on"
switch_text false = codes "off"

abbrev pub client_words : Client → List (List ℕ)
client_words client = codes "client" ∷ dotted client.ip ∷ encode_lower client.secret ∷ []

abbrev pub port_words : PortConf → List (List ℕ)
port_words conf =
    codes "port" ∷ decimal conf.port ∷ decimal conf.native ∷ control_text conf.control ∷ []

abbrev pub other_vlan_word : OtherVlan → List ℕ
other_vlan_word Restricted = codes "restricted"
other_vlan_word Guest = codes "guest"

-- the line of a VLAN of a port, where the port has one
abbrev pub port_vlan_lines : OtherVlan → PortConf → List (List (List ℕ))
port_vlan_lines other conf =
    if other_vlan other conf == 0 then []
    else (other_vlan_word other ∷ decimal conf.port ∷ decimal (other_vlan other conf) ∷ []) ∷ []

abbrev pub vlan_lines : OtherVlan → List PortConf → List (List (List ℕ))
vlan_lines other ports = flat_map (port_vlan_lines other) ports

abbrev pub set_words : List ℕ → List ℕ → List (List ℕ)
set_words timing value = codes "set" ∷ timing ∷ value ∷ []

abbrev pub bridge_words : Config → List (List ℕ)
bridge_words c = codes "bridge" ∷ encode_lower c.bridge ∷ []

abbrev pub nas_words : Config → List (List ℕ)
nas_words c = codes "nas" ∷ dotted c.nas.ip ∷ c.nas.name ∷ []

abbrev pub server_words : Config → List (List ℕ)
server_words c =
    codes "server" ∷ dotted c.server.ip ∷ decimal c.server.port ∷ encode_lower c.secret ∷ []

abbrev pub first_lines : Config → List (List (List ℕ))
first_lines c = bridge_words c ∷ nas_words c ∷ server_words c ∷ []

abbrev pub port_lines : List PortConf → List (List (List ℕ))
port_lines ports = map port_words ports ++ vlan_lines Restricted ports ++ vlan_lines Guest ports

abbrev pub time_lines : Times → List (List (List ℕ))
time_lines times =
    set_words (codes "quiet-period") (decimal times.quiet)
    ∷ set_words (codes "server-timeout") (decimal times.server)
    ∷ set_words (codes "reauth-max") (decimal times.reauth_max)
    ∷ set_words (codes "reauth-period") (decimal times.reauth_period)
    ∷ set_words (codes "reauth") (switch_text times.reauth)
    ∷ []

abbrev pub last_lines : Config → List (List (List ℕ))
last_lines c =
    set_words (codes "guest-wait") (decimal c.guest_wait)
    ∷ set_words (codes "dyn-window") (decimal c.window)
    ∷ set_words (codes "require-ma") (switch_text c.require_ma)
    ∷ (codes "clock" ∷ decimal c.clock ∷ [])
    ∷ (codes "seed" ∷ encode_lower c.seed ∷ [])
    ∷ (codes "begin" ∷ [])
    ∷ []

-- every setting, each once, in this order, and `begin`
abbrev pub config_lines : Config → List (List (List ℕ))
config_lines c =
    first_lines c ++ map client_words c.clients ++ port_lines c.ports ++ time_lines c.times
    ++ last_lines c

abbrev pub config_text : Config → List ℕ
config_text c = flat_map text_line (config_lines c)

-- the socket of a datagram, which is left out where it is the first
abbrev pub socket_words : ℕ → List (List ℕ)
socket_words socket = if socket == 0 then [] else decimal socket ∷ []

abbrev pub frame_words : (port : ℕ) → List ℕ → List (List ℕ)
frame_words port octets = codes "frame" ∷ decimal port ∷ octets_text octets ∷ []

abbrev pub radius_words : (socket : ℕ) → List ℕ → List (List ℕ)
radius_words socket octets = codes "radius" ∷ socket_words socket ++ octets_text octets ∷ []

abbrev pub dyn_words : Addr → List ℕ → List (List ℕ)
dyn_words from octets = codes "dyn" ∷ dotted from.ip ∷ decimal from.port ∷ octets_text octets ∷ []

-- a port, and what is chosen for it
abbrev pub choice_words : (port : ℕ) → List ℕ → List (List ℕ)
choice_words port choice = decimal port ∷ choice ∷ []

abbrev pub event_words : Happening → List (List ℕ)
event_words (Frame port octets) = frame_words port octets
event_words (Radius socket octets) = radius_words socket octets
event_words (Dynamic from octets) = dyn_words from octets
event_words Second = codes "tick" ∷ []
event_words (Link port up) = codes "link" ∷ choice_words port (link_text up)
event_words (SetControl port control) = codes "control" ∷ choice_words port (control_text control)

-- lane 1 is not written
abbrev pub lane_mark : ℕ → List ℕ
lane_mark lane = if lane == 1 then [] else 64 ∷ decimal lane ++ 32 ∷ []

abbrev pub record_text : Record → List ℕ
record_text (Control lane event) = lane_mark lane ++ text_line (event_words event)
record_text (Data port octets) = text_line (frame_words port octets)
