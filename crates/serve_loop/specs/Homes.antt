-- Where the hosts of the ports are, as a table.
use Rattle.std.specs.Prelude.{◌≡◌, ℕ, ◌<◌, List, slice_index_or, length, Option, None}
use Rattle.wire_core.specs.declared.address.Addr.{Addr}
use Rattle.serve_defs.specs.Posted.{Home, home_of}

-- each port has its home in the table
pub record AreHomes (table : List (Option Addr)) (homes : List Home) : Type 0 where
  pub size : length table ≡ 256
  pub known : (port : ℕ) → port < 256 → slice_index_or table port None ≡ home_of port homes
