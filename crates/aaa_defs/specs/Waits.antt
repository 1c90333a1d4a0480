-- The requests that wait for an answer, as a finite map from names, and the name that was used last. A name is a socket and an
-- identifier.
use Rattle.std.specs.Prelude.{ℕ, length, ◌<◌, ◌≤◌, ◌≡◌, ◌+◌, ◌*◌, ◌/◌, ◌%◌, ◌==◌, nat_lt, Bool, not, if◌then◌else◌, List, [], ◌∷◌, map, find, filter, Option, Some, None, is_some}
use Rattle.std.specs.List.{range_with_len, AllByRecursion}
use Rattle.std.specs.Option.{unwrap_or}
use Rattle.aaa_defs.specs.declared.TheConstants.{IDENTIFIERS, NAMES, MOST_WAITING}

-- the socket that a request of this name leaves by, its identifier, and the name of both (RFC 2865, section 2.5)
abbrev pub socket_of : ℕ → ℕ
socket_of name = name / IDENTIFIERS

abbrev pub identifier_of : ℕ → ℕ
identifier_of name = name % IDENTIFIERS

abbrev pub name_of : (socket identifier : ℕ) → ℕ
name_of socket identifier = IDENTIFIERS * socket + identifier

-- a request that was sent: the number of its session, its name, its authenticator, its age in seconds and its octets
pub record Pending : Type 0 where
  pub session : ℕ
  pub name : ℕ
  pub auth : List ℕ
  pub age : ℕ
  pub octets : List ℕ

-- the requests, in rising order of their sessions: no two are of one session, and no two have one name
pub record Waits : Type 0 where
  pub requests : List Pending
  pub last : Option ℕ

-- nothing waits, and no name was used
abbrev pub nothing : Waits
nothing = record { requests = []; last = None }

-- the request of a session
abbrev pub pending_of : ℕ → Waits → Option Pending
pending_of session w = find (λ p. p.session == session) w.requests

-- the request with a name
abbrev pub pending_under : ℕ → Waits → Option Pending
pending_under name w = find (λ p. p.name == name) w.requests

-- each number is below those after it
abbrev pub RisesBy : {X : Type 0} → (X → ℕ) → List X → Type 0
RisesBy number [] = Unit {0}
RisesBy number (x ∷ rest) = AllByRecursion (λ y. number x < number y) rest × RisesBy number rest

-- a finite map: the sessions rise, so that no two requests are of one; each request is the one that is found under its name; and
-- they are few
pub record AreApart (w : Waits) : Type 0 where
  pub sessions : RisesBy (λ p. p.session) w.requests
  pub names : AllByRecursion (λ p. pending_under p.name w ≡ Some p) w.requests
  pub few : length w.requests ≤ MOST_WAITING

-- the names in their round, from this one on
abbrev pub round_from : ℕ → List ℕ
round_from first = map (λ step. (first + step) % NAMES) (range_with_len 0 NAMES)

-- the name after the last; the first of all is 0
abbrev pub after_last : Option ℕ → ℕ
after_last None = 0
after_last (Some last) = (last + 1) % NAMES

abbrev pub is_free : Waits → ℕ → Bool
is_free w name = not (is_some (pending_under name w))

-- the next name of the round under which nothing waits (RFC 2865, section 3; RFC 5080, section 2.2.1)
unfoldable pub next_name : Waits → ℕ
next_name w = unwrap_or (find (is_free w) (round_from (after_last w.last))) 0

-- an entry in its place among others that stand in rising order of this number
abbrev pub placed : {X : Type 0} → (X → ℕ) → X → List X → List X
placed number x [] = x ∷ []
placed number x (y ∷ rest) = if nat_lt (number x) (number y) then x ∷ y ∷ rest else y ∷ placed number x rest

-- a request was sent
abbrev pub with_request : Pending → Waits → Waits
with_request p w = record { requests = placed (λ r. r.session) p w.requests; last = Some p.name }

-- the session's request is forgotten
abbrev pub forgotten : ℕ → Waits → Waits
forgotten session w = record w { requests = filter (λ p. not (p.session == session)) w.requests }
