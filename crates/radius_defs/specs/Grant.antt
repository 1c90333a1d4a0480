-- What an Access-Accept grants (RFC 3580, section 3.31).
use Rattle.std.specs.Prelude.{ℕ, List, Result, Ok, Err}
use Rattle.radius_defs.specs.declared.Tunnel.{Tunnel}
use Rattle.radius_defs.specs.declared.Tunnel.TheVariants.{Absent, Partial, Bad, Vlan}
use Rattle.radius_defs.specs.declared.Timeout.{Timeout}
use Rattle.radius_defs.specs.declared.Grant.{Grant}
use Rattle.radius_defs.specs.declared.Unfit.{Unfit}
use Rattle.radius_defs.specs.Packet.{Attribute}
use Rattle.radius_defs.specs.Attributes.{tunnel_of, timeout_of}

-- the native VLAN where the packet names none, and no grant where it does not name one aright
abbrev pub grant_from : Tunnel → Timeout → ℕ → Result Grant Unfit
grant_from Absent timeout native = Ok (record { vlan = native; timeout = timeout })
grant_from (Vlan n) timeout native = Ok (record { vlan = n; timeout = timeout })
grant_from Partial timeout native = Err (record {})
grant_from Bad timeout native = Err (record {})

-- the VLAN and the time on a port with this native VLAN
abbrev pub grant_of : List Attribute → ℕ → Result Grant Unfit
grant_of attributes native = grant_from (tunnel_of attributes) (timeout_of attributes) native
