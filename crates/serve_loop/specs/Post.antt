-- What of several datagrams was sent.
use Rattle.std.specs.Prelude.{◌≤◌, ℕ, List, length, take, Option}
use Rattle.outside_link.specs.Link.{Outgoing, Grows}

-- the first of them were
abbrev pub SendsFirst : Option (List Outgoing) → Option (List Outgoing) → List Outgoing → Type 0
SendsFirst old new all = (n : ℕ) × (n ≤ length all) × Grows old new (take n all)
