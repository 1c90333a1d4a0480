-- The request that is made when the server is asked.
use Rattle.std.specs.Prelude.{ℕ, List}
use Rattle.switch_event.specs.Config.{Config}
use Rattle.aaa_defs.specs.Request.{Ask, request_octets}
use Rattle.aaa_defs.specs.Waits.{Pending, identifier_of}

-- a request about a host for a session, which is sent now under this name
abbrev pub new_request : Config → Ask → (session name : ℕ) → List ℕ → Pending
new_request c a session name auth = record {
  session = session;
  name = name;
  auth = auth;
  age = 0;
  octets = request_octets c a session (identifier_of name) auth;
}
