-- An office: the settings of its switch, its hosts, and the frames that they send.
use Rattle.std.specs.Prelude.{ℕ, ◌+◌, ◌-◌, ◌%◌, List, [], ◌∷◌, ◌++◌, length, map, replicate, true, codes}
use Rattle.std.specs.List.{range_with_len}
use Rattle.std.specs.Fmt.{decimal}
use Rattle.wire_defs.specs.declared.Kind.TheVariants.{Start}
use Rattle.wire_defs.specs.Number.{two_octets}
use Rattle.wire_defs.specs.Ethernet.{pae_group, eapol_kind, plain_text}
use Rattle.wire_defs.specs.Eapol.{eapol_text, type_number}
use Rattle.machine_vars.specs.declared.control.Control.TheVariants.{Auto}
use Rattle.switch_event.specs.declared.config.PortConf.{PortConf}
use Rattle.switch_event.specs.Config.{Config, empty}
use Rattle.day_defs.specs.declared.TheConstants.{PORTS}

-- a port on which authentication decides, with VLAN 1
abbrev pub port_conf : ℕ → PortConf
port_conf port = record { port = port; native = 1; control = Auto; restricted = 0; guest = 0 }

-- the ports, numbered from 1
abbrev pub ports : List ℕ
ports = range_with_len 1 PORTS

-- the switch has these ports and one RADIUS server, and its hosts authenticate again each hour
unfoldable pub settings : Config
settings = record empty {
  server = record { ip = 192 ∷ 0 ∷ 2 ∷ 20 ∷ []; port = 1812 };
  secret = codes "load";
  ports = map port_conf ports;
  times = record empty.times { reauth = true };
}

-- ---- hosts

-- so many hosts, numbered from 1
abbrev pub hosts : ℕ → List ℕ
hosts n = range_with_len 1 n

-- they are spread over the ports
abbrev pub port_of_host : ℕ → ℕ
port_of_host h = (h - 1) % PORTS + 1

-- 02-00-00-00, and the number of the host
abbrev pub address_of_host : ℕ → List ℕ
address_of_host h = 2 ∷ 0 ∷ 0 ∷ 0 ∷ two_octets h

-- `user`, and the number of the host
abbrev pub identity_of_host : ℕ → List ℕ
identity_of_host h = codes "user" ++ decimal h

-- the VLAN that the server grants it
abbrev pub vlan_of_host : ℕ → ℕ
vlan_of_host h = 10 + h % 10

-- ---- frames

-- a frame of EAPOL to the port access entity (IEEE Std 802.1X-2004, 7.8)
abbrev pub eapol_frame : ℕ → (packet : List ℕ) → List ℕ
eapol_frame h packet = plain_text (record { to = pae_group; source = address_of_host h; kind = eapol_kind; body = packet })

-- EAPOL-Start (IEEE Std 802.1X-2004, 7.5.4)
abbrev pub start_text : List ℕ
start_text = 2 ∷ type_number Start ∷ two_octets 0

abbrev pub start_frame : ℕ → List ℕ
start_frame h = eapol_frame h start_text

-- the Response that gives an identity (RFC 3748, 5.1)
abbrev pub identity_response : (id : ℕ) → (identity : List ℕ) → List ℕ
identity_response id identity = (2 ∷ id ∷ two_octets (5 + length identity)) ++ 1 ∷ identity

abbrev pub response_frame : ℕ → (id : ℕ) → List ℕ
response_frame h id = eapol_frame h (eapol_text (identity_response id (identity_of_host h)))

-- a frame of IPv4 with nothing but zeros, of the least length that Ethernet has, to a station beyond the switch
abbrev pub ipv4_kind : ℕ
ipv4_kind = 0x0800

abbrev pub data_frame : ℕ → List ℕ
data_frame h =
    plain_text (record { to = 2 ∷ 0 ∷ 0 ∷ 15 ∷ 255 ∷ 255 ∷ []; source = address_of_host h; kind = ipv4_kind; body = replicate 46 0 })
