-- The sessions that are kept, as rows that dynamic requests can know.
use Rattle.std.specs.Prelude.{List, map}
use Rattle.typed_session.specs.Reads.{identity_of, status_of}
use Rattle.session_table.specs.Slots.{Entry}
use Rattle.dynauth_defs.specs.Session.{Row}
use Rattle.switch_defs.specs.Switch.{State}
use Rattle.switch_defs.specs.Dynamic.{some_octets}
use Rattle.switch_defs.specs.Laws.{IsBetween}
use Rattle.host_session.specs.declared.session.Session.{Session}
use Rattle.host_sessions.specs.declared.sessions.Sessions.{Sessions}
use Rattle.host_sessions.specs.Holds.{Holds}

abbrev pub row_by : Entry Session → Row
row_by e = record {
  number = e.value.number;
  port = e.port;
  address = e.address;
  identity = some_octets (identity_of e.value.host);
  authorised = status_of e.value.host;
}

abbrev pub rows_of : Sessions → List Row
rows_of k = map row_by k.slots

-- they are the sessions of a state in which each is at rest
pub record AreBetween (k : Sessions) : Type 0 where
  pub state : State
  pub holds : Holds k state
  pub between : IsBetween state
