-- A link over the sockets of the host.
use Rattle.std.specs.Prelude.{ℕ, Option, Some, None}
use Rattle.outside_link.specs.Link.{Ports}

-- the ports that are bound, and the faults
pub record Sockets : Type 0 where
  pub bound : Ports
  pub faults : ℕ

-- a socket is kept with its port
abbrev pub port_of : {S : Type 0} → Option (ℕ × S) → Option ℕ
port_of None = None
port_of (Some (port, socket)) = Some port
