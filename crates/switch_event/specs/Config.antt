-- The settings of the switch, and which of them are valid.
use Rattle.std.specs.Prelude.{ℕ, ◌==◌, ◌&&◌, nat_le, Bool, true, false, not, List, [], ◌∷◌, length, codes}
use Rattle.std.specs.List.{list_all, list_any}
use Rattle.std.specs.Str.{bytes_eq}
use Rattle.machine_vars.specs.declared.control.Times.{Times}
use Rattle.wire_core.specs.declared.address.Addr.{Addr}
use Rattle.switch_event.specs.declared.config.PortConf.{PortConf}

-- a client that may send dynamic requests, and the secret shared with it
pub record Client : Type 0 where
  pub ip : List ℕ
  pub secret : List ℕ

-- what the switch is to RADIUS servers: an address and a name
pub record Nas : Type 0 where
  pub ip : List ℕ
  pub name : List ℕ

-- the address of the bridge, the access server, the RADIUS server and the secret shared with it, the clients, the ports, the
-- times of the machines, how long nobody answers before guests are let in, the window of dynamic requests, whether a
-- Message-Authenticator is wanted, the second at which the clock starts, the seed of authenticators
pub record Config : Type 0 where
  pub bridge : List ℕ
  pub nas : Nas
  pub server : Addr
  pub secret : List ℕ
  pub clients : List Client
  pub ports : List PortConf
  pub times : Times
  pub guest_wait : ℕ
  pub window : ℕ
  pub require_ma : Bool
  pub clock : ℕ
  pub seed : List ℕ

-- the settings before the first is given
abbrev pub empty : Config
empty = record {
  bridge = 2 ∷ 0 ∷ 0 ∷ 1 ∷ 1 ∷ 0 ∷ [];
  nas = record { ip = 192 ∷ 0 ∷ 2 ∷ 10 ∷ []; name = codes "sw1" };
  server = record { ip = 0 ∷ 0 ∷ 0 ∷ 0 ∷ []; port = 0 };
  secret = [];
  clients = [];
  ports = [];
  times = record { quiet = 60; server = 30; reauth_max = 2; reauth_period = 3600; reauth = false };
  guest_wait = 30;
  window = 300;
  require_ma = true;
  clock = 0;
  seed = 0 ∷ 0 ∷ 0 ∷ 0 ∷ 0 ∷ 0 ∷ 0 ∷ 0 ∷ 0 ∷ 0 ∷ 0 ∷ 0 ∷ 0 ∷ 0 ∷ 0 ∷ 0 ∷ 0 ∷ 0 ∷ 0 ∷ 0 ∷ 0 ∷ 0 ∷ 0 ∷ 0 ∷ 0 ∷ 0 ∷ 0 ∷ 0 ∷ 0 ∷ 0 ∷ 0 ∷ 0 ∷ [];
}

-- a number, or a length, in a range
abbrev pub within : ℕ → ℕ → ℕ → Bool
within least most n = nat_le least n && nat_le n most

abbrev pub is_among : ℕ → List PortConf → Bool
is_among n ports = list_any (λ p. p.port == n) ports

abbrev pub has_port : ℕ → Config → Bool
has_port n config = is_among n config.ports

abbrev pub has_address : List ℕ → List Client → Bool
has_address ip clients = list_any (λ c. bytes_eq c.ip ip) clients

abbrev pub has_client : List ℕ → Config → Bool
has_client ip config = has_address ip config.clients

abbrev pub ports_apart : List PortConf → Bool
ports_apart [] = true
ports_apart (p ∷ rest) = not (is_among p.port rest) && ports_apart rest

-- ports from 1 to 60, of which no two are the same
abbrev pub are_ports : List PortConf → Bool
are_ports ports = list_all (λ p. within 1 60 p.port) ports && ports_apart ports

-- a VLAN from 1 to 4094, and a restricted and a guest VLAN up to 4094, where 0 is none
abbrev pub has_valid_vlans : PortConf → Bool
has_valid_vlans p = within 1 4094 p.native && nat_le p.restricted 4094 && nat_le p.guest 4094

abbrev pub are_valid_ports : List PortConf → Bool
are_valid_ports ports = are_ports ports && list_all has_valid_vlans ports

-- a client's secret has 1 to 64 octets
abbrev pub is_valid_client : Client → Bool
is_valid_client c = within 1 64 (length c.secret)

abbrev pub clients_apart : List Client → Bool
clients_apart [] = true
clients_apart (c ∷ rest) = not (has_address c.ip rest) && clients_apart rest

abbrev pub are_valid_clients : List Client → Bool
are_valid_clients clients = list_all is_valid_client clients && clients_apart clients

abbrev pub are_valid_names : Config → Bool
are_valid_names c =
    within 1 32 (length c.nas.name) && within 1 65535 c.server.port && within 1 64 (length c.secret)

abbrev pub are_valid_times : Times → Bool
are_valid_times times =
    within 1 65535 times.quiet && within 1 65535 times.server && within 1 10 times.reauth_max
    && within 1 4294967295 times.reauth_period

abbrev pub is_valid_clock : Config → Bool
is_valid_clock c = within 1 86400 c.window && within 1 65535 c.guest_wait && nat_le c.clock 4294967295

-- settings with which a switch can run: ports and clients that differ, and each number and length in its range
abbrev pub is_valid : Config → Bool
is_valid c =
    are_valid_ports c.ports && are_valid_clients c.clients && are_valid_names c && are_valid_times c.times
    && is_valid_clock c
