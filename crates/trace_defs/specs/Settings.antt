-- Settings as a text that was read so far leaves them.
use Rattle.std.proofs.Common.{◌≡◌, ℕ, ◌≤◌, true, false, List, [], ◌∷◌, ◌++◌, length}
use Rattle.machine_vars.specs.declared.control.Times.{Times}
use Rattle.switch_event.specs.Config.{Config, Client, Nas, has_address, are_valid_ports}
use Rattle.wire_core.specs.declared.address.Addr.{Addr}
use Rattle.trace_defs.specs.declared.given.TheConstants.{SERVER}
use Rattle.trace_defs.specs.Line.{was_given}
use Rattle.trace_defs.specs.Sized.{IsAddress, IsSized, IsPlain, IsWithin}

pub record IsClient (client : Client) : Type 0 where
  pub ip : IsAddress client.ip
  pub secret : IsSized 1 64 client.secret

-- clients of which none is among those before it
abbrev pub AreNew : List Client → List Client → Type 0
AreNew before [] = Unit {0}
AreNew before (client ∷ rest) = IsClient client × (has_address client.ip before ≡ false) × AreNew (before ++ client ∷ []) rest

pub record AreClients (clients : List Client) : Type 0 where
  pub new : AreNew [] clients
  pub few : length clients ≤ 4

pub record IsNas (nas : Nas) : Type 0 where
  pub ip : IsAddress nas.ip
  pub name : IsPlain nas.name
  pub short : length nas.name ≤ 32

pub record IsServer (server : Addr) (secret : List ℕ) : Type 0 where
  pub ip : IsAddress server.ip
  pub port : IsWithin 1 65535 server.port
  pub shared : IsSized 1 64 secret

pub record IsTimed (times : Times) : Type 0 where
  pub quiet : IsWithin 1 65535 times.quiet
  pub server : IsWithin 1 65535 times.server
  pub reauth_max : IsWithin 1 10 times.reauth_max
  pub reauth_period : IsWithin 1 4294967295 times.reauth_period

pub record IsClocked (guest_wait window clock : ℕ) : Type 0 where
  pub wait : IsWithin 1 65535 guest_wait
  pub window_day : IsWithin 1 86400 window
  pub clock_fits : IsWithin 0 4294967295 clock

-- settings that lines can write, with a server where it was given
pub record IsRead (config : Config) (given : ℕ) : Type 0 where
  pub bridge : IsSized 6 6 config.bridge
  pub nas : IsNas config.nas
  pub server : was_given SERVER given ≡ true → IsServer config.server config.secret
  pub clients : AreClients config.clients
  pub ports : are_valid_ports config.ports ≡ true
  pub timed : IsTimed config.times
  pub clocked : IsClocked config.guest_wait config.window config.clock
  pub seed : IsSized 32 32 config.seed
