-- What is held for hosts, as the list of its entries in the order in which they came.
use Rattle.std.specs.Prelude.{◌≡◌, ◌==◌, if◌then◌else◌, ◌<◌, ◌≤◌, ◌+◌, ◌-◌, ◌*◌, ◌/◌, ◌&&◌, ℕ, eqb, Bool, true, not, nat_lt, List, length, map, find, filter, Option, None}
use Rattle.std.specs.Option.{option_map}
use Rattle.std.specs.List.{AllByRecursion, IsDistinct}
use Rattle.std.specs.Str.{bytes_eq}
use Rattle.wire_core.specs.declared.address.Mac.{Mac}

-- what is held for one host: its place, its port, the host's address and the value
pub record Entry (T : Type 0) : Type 0 where
  pub place : ℕ
  pub port : ℕ
  pub address : List ℕ
  pub value : T

-- a port is 1 to 60
abbrev pub is_port : ℕ → Bool
is_port port = nat_lt 0 port && nat_lt port 61

-- the first of a port's sixteen places
abbrev pub first_place : ℕ → ℕ
first_place port = 16 * (port - 1)

-- the port of a place
abbrev pub port_of : ℕ → ℕ
port_of place = place / 16 + 1

module _ {T : Type 0} where
  abbrev pub is_at : ℕ → Entry T → Bool
  is_at place e = e.place == place

  -- what is at another place
  abbrev pub is_other : ℕ → Entry T → Bool
  is_other place e = not (e.place == place)

  abbrev pub is_on : ℕ → Entry T → Bool
  is_on port e = e.port == port

  -- what is held for an address on a port
  abbrev pub is_for : ℕ → List ℕ → Entry T → Bool
  is_for port address e = (e.port == port) && bytes_eq e.address address

  abbrev pub held_at : ℕ → List (Entry T) → Option (Entry T)
  held_at place es = find (is_at place) es

  abbrev pub value_at : ℕ → List (Entry T) → Option T
  value_at place es = option_map (λ e. e.value) (held_at place es)

  -- a host's port and address
  abbrev pub key_of : Entry T → ℕ × Mac
  key_of e = (e.port, record { 0 = e.address })

  abbrev pub key_at : ℕ → List (Entry T) → Option (ℕ × Mac)
  key_at place es = option_map key_of (held_at place es)

  -- where an address is held on a port
  abbrev pub place_for : ℕ → List ℕ → List (Entry T) → Option ℕ
  place_for port address es = option_map (λ e. e.place) (find (is_for port address) es)

  -- how many hosts are held on a port
  abbrev pub count_on : ℕ → List (Entry T) → ℕ
  count_on port es = length (filter (is_on port) es)

  abbrev pub places_of : List (Entry T) → List ℕ
  places_of es = map (λ e. e.place) es

  -- what is at a place has another value
  abbrev pub with_value : ℕ → T → Entry T → Entry T
  with_value place value e = record e { value = if e.place == place then value else e.value }

  abbrev pub renewed : ℕ → T → List (Entry T) → List (Entry T)
  renewed place value es = map (with_value place value) es

  -- a place of the port's sixteen, at which nothing is held
  pub record IsTakenFor (port place : ℕ) (es : List (Entry T)) : Type 0 where
    pub from : first_place port ≤ place
    pub below : place < first_place port + 16
    pub free : held_at place es ≡ None

  -- its port is 1 to 60, and its place is one of the port's
  abbrev pub IsPlaced : Entry T → Type 0
  IsPlaced e = (is_port e.port ≡ true) × (port_of e.place ≡ e.port)

  -- two entries are for one host of one port
  abbrev pub are_one : Entry T → Entry T → Bool
  are_one e f = is_for e.port e.address f

  -- at most 960 entries, each at a place of its port, no two at one place, and no two for one host
  -- of one port
  pub record IsTable (es : List (Entry T)) : Type 0 where
    pub few : length es ≤ 960
    pub placed : AllByRecursion IsPlaced es
    pub places : IsDistinct eqb (places_of es)
    pub hosts : IsDistinct are_one es
