-- The sessions that a roll has, and what it promises of them.
use Rattle.std.specs.Prelude.{ℕ, ◌&&◌, nat_le, Bool, true, List, length, map, Option, Some, None, IsTrue}
use Rattle.std.specs.List.{list_all}
use Rattle.std.specs.List.Sorted.{IsStrictlyIncreasing}
use Rattle.radius_packet.specs.Views.{value_in}
use Rattle.dynauth_defs.specs.Session.{Row}
use Rattle.dynauth_server.specs.declared.roll.RollRow.{RollRow}

-- a session as the code has it
abbrev pub row_of : RollRow → Row
row_of r = record { number = r.number; port = r.port; address = r.mac.0; identity = value_in r.identity; authorised = r.authorised }

-- an identity, where one was given, has 1 to 253 octets (RFC 2865, section 5.1)
abbrev pub is_identity : Option (List ℕ) → Bool
is_identity None = true
is_identity (Some identity) = nat_le 1 (length identity) && nat_le (length identity) 253

-- the numbers rise, and the identities are some
pub record IsRoll (rows : List Row) : Type 0 where
  pub rises : IsStrictlyIncreasing (map (λ y. y.number) rows)
  pub identities : IsTrue (list_all (λ y. is_identity y.identity) rows)
