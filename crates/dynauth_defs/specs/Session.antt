-- The sessions that a dynamic request may name, and which of them it does name (RFC 5176, section 3).
use Rattle.std.specs.Prelude.{ℕ, ◌==◌, Bool, true, false, if◌then◌else◌, List, Option, Some, None, filter}
use Rattle.std.specs.List.{list_all}
use Rattle.std.specs.Str.{bytes_eq}
use Rattle.wire_defs.specs.Station.{station_of}
use Rattle.radius_defs.specs.declared.attribute.TheConstants.{USER_NAME, NAS_PORT, CALLING_STATION_ID, ACCT_SESSION_ID}
use Rattle.radius_defs.specs.Packet.{Attribute}
use Rattle.radius_defs.specs.Attributes.{number_of, session_text}

-- what a request can know a session by: its number, its port, the address and, where it gave one, the identity of its host;
-- and whether the host is authorised
pub record Row : Type 0 where
  pub number : ℕ
  pub port : ℕ
  pub address : List ℕ
  pub identity : Option (List ℕ)
  pub authorised : Bool

-- a value that is there, and is these octets
abbrev pub is_octets : List ℕ → Option (List ℕ) → Bool
is_octets octets None = false
is_octets octets (Some value) = bytes_eq value octets

-- a number that is there, and is this one
abbrev pub is_number : ℕ → Option ℕ → Bool
is_number n None = false
is_number n (Some value) = value == n

-- User-Name, NAS-Port, Calling-Station-Id and Acct-Session-Id (as the server was told it) name sessions; another attribute names
-- none, and so fits each
abbrev pub fits : Row → Attribute → Bool
fits row a =
    if a.kind == USER_NAME then is_octets a.value row.identity
    else if a.kind == NAS_PORT then is_number row.port (number_of a.value)
    else if a.kind == CALLING_STATION_ID then is_octets row.address (station_of a.value)
    else if a.kind == ACCT_SESSION_ID then bytes_eq a.value (session_text row.number)
    else true

-- the attributes name a session where each of them fits it
abbrev pub matches : List Attribute → Row → Bool
matches attributes row = list_all (fits row) attributes

-- of all sessions those that the attributes name
abbrev pub matching : List Attribute → List Row → List Row
matching attributes rows = filter (matches attributes) rows
