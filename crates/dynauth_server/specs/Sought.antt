-- What a request asks of the sessions that it names, once its attributes are read.
use Rattle.std.specs.Prelude.{◌==◌, ◌&&◌, Bool, true, false, if◌then◌else◌, Option, Some, None}
use Rattle.std.specs.Str.{bytes_eq}
use Rattle.radius_defs.specs.Attributes.{session_text}
use Rattle.radius_packet.specs.Views.{value_in}
use Rattle.wire_core.specs.declared.address.Mac.{Mac}
use Rattle.dynauth_defs.specs.Session.{Row, is_octets}
use Rattle.dynauth_server.specs.declared.naming.Sought.{Sought}

-- a value beside the one that is sought already, if any is: none where the two differ
abbrev pub agreed : {A : Type 0} → (A → A → Bool) → Option A → A → Option A
agreed same None value = Some value
agreed same (Some before) value = if same before value then Some value else None

-- the octets of two addresses are the same
abbrev pub is_same_address : Mac → Mac → Bool
is_same_address a b = bytes_eq a.0 b.0

-- the value that is sought, if any is, passes a test
abbrev pub seeks : {A : Type 0} → (A → Bool) → Option A → Bool
seeks test None = true
seeks test (Some value) = test value

-- a session that has each value that is sought
abbrev pub names : Sought → Row → Bool
names sought row =
    seeks (λ value. is_octets value row.identity) (value_in sought.identity)
    && (seeks (λ n. n == row.port) sought.port
    && (seeks (λ mac. bytes_eq mac.0 row.address) sought.address
    && seeks (λ value. bytes_eq value (session_text row.number)) (value_in sought.session)))

-- where values differ no session has them all
abbrev pub names_in : Option Sought → Row → Bool
names_in None row = false
names_in (Some sought) row = names sought row
