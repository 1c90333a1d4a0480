-- A link in memory, and what each call makes of it.
use Rattle.std.specs.Prelude.{ℕ, ◌+◌, ◌-◌, List, [], ◌∷◌, ◌++◌, length, slice_set, Option, Some, None, Result, Ok, Err}
use Rattle.wire_defs.specs.Outside.{risen}
use Rattle.wire_core.specs.declared.address.Addr.{Addr}
use Rattle.outside_link.specs.Link.{Incoming, Outgoing, Ports, without_first}

-- what was sent, the room that is left for more, what waits, the ports that are bound, the numbers of the calls that
-- fail, the calls made and the faults
pub record Post : Type 0 where
  pub sent : List Outgoing
  pub room : ℕ
  pub waits : List (List Incoming)
  pub bound : Ports
  pub fails : List ℕ
  pub calls : ℕ
  pub faults : ℕ

-- one call more
abbrev pub called : Post → Post
called s = record s { calls = risen s.calls }

-- one that failed
abbrev pub failed : Post → Post
failed s = record s { calls = risen s.calls; faults = risen s.faults }

abbrev pub after_bind : {T E : Type 0} → Result T E → (channel port : ℕ) → Post → Post
after_bind (Ok done) channel port s =
    record (called s) { bound = slice_set s.bound channel (Some port) }
after_bind (Err e) channel port s = failed s

-- each datagram takes 16 octets of the room more than it has
abbrev pub after_send : {T E : Type 0} → Result T E →
    (channel : ℕ) → (to : Addr) → (piece : List ℕ) → Post → Post
after_send (Ok done) channel to piece s = record (called s) {
  sent = s.sent ++ record { channel = channel; to = to; octets = piece } ∷ [];
  room = s.room - (16 + length piece);
}
after_send (Err e) channel to piece s = failed s

abbrev pub after_recv : {T E : Type 0} → Result (Option T) E → (channel : ℕ) → Post → Post
after_recv (Ok None) channel s = called s
after_recv (Ok (Some found)) channel s = record (called s) { waits = without_first channel s.waits }
after_recv (Err e) channel s = failed s
