-- How a link in memory keeps what was sent.
use Rattle.std.specs.Prelude.{ℕ, ◌+◌, ◌≤◌, List, length, take, drop, map, All}
use Rattle.outside_link.specs.Link.{Outgoing}
use Rattle.outside_link.specs.declared.outbox.Head.{Head}

-- what was sent, and the room that is left
pub record Store : Type 0 where
  pub sent : List Outgoing
  pub room : ℕ

abbrev pub sent_at : List ℕ → Head → Outgoing
sent_at octets h =
    record { channel = h.channel; to = h.to; octets = take h.len (drop h.at octets) }

abbrev pub sent_of : List ℕ → List Head → List Outgoing
sent_of octets heads = map (λ h. sent_at octets h) heads

-- the octets of each stand there
abbrev pub StandWithin : List ℕ → List Head → Type 0
StandWithin octets heads = All (λ h. h.at + h.len ≤ length octets) heads
