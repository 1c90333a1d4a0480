-- The places of requests, one for each name, and which of them are in use.
use Rattle.std.specs.Prelude.{ℕ, ◌≡◌, List, [], length, slice_index_or}
use Rattle.std.specs.List.{AllByRecursion}
use Rattle.aaa_defs.specs.declared.TheConstants.{NAMES}
use Rattle.aaa_defs.specs.Waits.{Pending}
use Rattle.aaa_client.specs.declared.order.Entry.{Entry}

-- what an index past the places reads
abbrev pub no_request : Pending
no_request = record { session = 0; name = 0; auth = []; age = 0; octets = [] }

abbrev pub place : List Pending → ℕ → Pending
place places name = slice_index_or places name no_request

-- the request of an entry
abbrev pub request_of : List Pending → Entry → Pending
request_of places e = place places e.name

-- in the place of an entry stands a request of its session, with its name
pub record Agrees (places : List Pending) (e : Entry) : Type 0 where
  pub session : (request_of places e).session ≡ e.session
  pub name : (request_of places e).name ≡ e.name

-- the places and their index
pub record Stands (places : List Pending) (order : List Entry) : Type 0 where
  pub all : length places ≡ NAMES
  pub agree : AllByRecursion (Agrees places) order
