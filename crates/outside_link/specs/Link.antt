-- What a link tells: the datagrams that wait and those that were sent.
use Rattle.std.specs.Prelude.{◌≡◌, ⊤, ℕ, ◌≤◌, min, List, [], ◌∷◌, ◌++◌, length, take, drop, slice_set, slice_index_or, Option, Some, None, IfSome, Result, Ok, Err, IfOk, IsErr, MatchResult}
use Rattle.wire_core.specs.declared.address.Addr.{Addr}

-- what was told is as before
abbrev pub Same : {A : Type 0} → Option A → Option A → Type 0
Same None new = ⊤
Same (Some x) None = ⊥
Same (Some x) (Some y) = y ≡ x

-- a list that was told grew by these
abbrev pub Grows : {A : Type 0} → Option (List A) → Option (List A) → List A → Type 0
Grows None new more = ⊤
Grows (Some xs) None more = ⊥
Grows (Some xs) (Some ys) more = ys ≡ xs ++ more

-- ---- datagrams (RFC 768)

-- one that waits, with its sender
pub record Incoming : Type 0 where
  pub from : Addr
  pub octets : List ℕ

-- one that was sent, by a channel
pub record Outgoing : Type 0 where
  pub channel : ℕ
  pub to : Addr
  pub octets : List ℕ

-- the first of a list
abbrev pub first : {A : Type 0} → List A → Option A
first [] = None
first (x ∷ xs) = Some x

-- the first datagram that waits on a channel, and what waits once it was taken
abbrev pub first_waiting : ℕ → List (List Incoming) → Option Incoming
first_waiting channel waits = first (slice_index_or waits channel [])

abbrev pub without_first : ℕ → List (List Incoming) → List (List Incoming)
without_first channel waits =
    slice_set waits channel (drop 1 (slice_index_or waits channel []))

-- the ports of a link's channels, and None for one that is not bound
abbrev pub Ports : Type 0
Ports = List (Option ℕ)

-- a bind gives its channel the port
abbrev pub Binds : {T E : Type 0} → Option Ports → Option Ports → (channel port : ℕ) →
    Result T E → Type 0
Binds None new channel port result = ⊤
Binds (Some old) None channel port result = ⊥
Binds (Some old) (Some new) channel port (Ok done) = new ≡ slice_set old channel (Some port)
Binds (Some old) (Some new) channel port (Err e) = new ≡ old

-- a call fails on a channel that the link does not have
abbrev pub NeedsChannel : {T E : Type 0} → Option Ports → (channel : ℕ) → Result T E → Type 0
NeedsChannel bound channel result = IfSome bound (λ b. length b ≤ channel → IsErr result)

-- a call fails on a channel that is not bound, and on one that the link does not have
abbrev pub NeedsBound : {T E : Type 0} → Option Ports → (channel : ℕ) → Result T E → Type 0
NeedsBound bound channel result =
    IfSome bound (λ b. slice_index_or b channel None ≡ None → IsErr result)

-- a send appends its datagram
abbrev pub Sends : {T E : Type 0} → Option (List Outgoing) → Option (List Outgoing) →
    (channel : ℕ) → Addr → List ℕ → Result T E → Type 0
Sends old new channel to piece result = MatchResult result
    (λ _. Grows old new (record { channel = channel; to = to; octets = piece } ∷ []))
    (λ _. Same old new)

-- what was received is of this datagram: its sender, and as much of it as fits
pub record IsReceived (d : Incoming) (from : Addr) (n : ℕ) (buf : List ℕ) : Type 0 where
  pub sender : from ≡ d.from
  pub count : n ≡ min (length d.octets) (length buf)
  pub octets : take n buf ≡ take n d.octets

-- a receive takes the first datagram that waits, and answers None exactly where none waits
abbrev pub Receives : {E : Type 0} →
    Option (List (List Incoming)) → Option (List (List Incoming)) → (channel : ℕ) →
    Result (Option (Addr × ℕ)) E → List ℕ → Type 0
Receives None new channel result buf = ⊤
Receives (Some old) None channel result buf = ⊥
Receives (Some old) (Some new) channel (Ok None) buf =
    (first_waiting channel old ≡ None) × (new ≡ old)
Receives (Some old) (Some new) channel (Ok (Some (from, n))) buf =
    (d : Incoming) × (first_waiting channel old ≡ Some d)
    × IsReceived d from n buf × (new ≡ without_first channel old)
Receives (Some old) (Some new) channel (Err e) buf = new ≡ old

-- at most as much as fits
abbrev pub ReceivesAtMost : {E : Type 0} → Result (Option (Addr × ℕ)) E → List ℕ → Type 0
ReceivesAtMost result buf = IfOk result (λ found. IfSome found (λ r. r.1 ≤ length buf))
