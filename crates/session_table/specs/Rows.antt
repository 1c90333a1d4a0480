-- How entries are kept: by place, and the places in their order. No public clause cites this
-- module.
use Rattle.std.specs.Prelude.{◌≡◌, ◌<◌, ◌≤◌, ◌+◌, ℕ, zero, suc, eqb, Bool, true, false, cond, List, length, slice_index_or, filter_map, Option, Some, None, is_some, is_none}
use Rattle.std.specs.List.{IsDistinct, list_any}
use Rattle.std.specs.Str.{bytes_eq}
use Rattle.wire_core.specs.declared.address.Mac.{Mac}
use Rattle.session_table.specs.Slots.{Entry, port_of}

-- a place of sixteen from one on at which a question is answered with yes; none only where no
-- answer is yes
abbrev pub FoundBy : (ℕ → Bool) → ℕ → Option ℕ → Type 0
FoundBy asked first None = (k : ℕ) → k < 16 → asked (first + k) ≡ false
FoundBy asked first (Some at) = (first ≤ at) × (at < first + 16) × (asked at ≡ true)

-- at how many of so many places from one on a question is answered with yes
abbrev pub count_held : (ℕ → Bool) → ℕ → ℕ → ℕ
count_held asked first zero = 0
count_held asked first (suc n) = count_held asked first n + cond (asked (first + n)) 1 0

abbrev pub host_at : List (Option Mac) → ℕ → Option Mac
host_at hosts p = slice_index_or hosts p None

abbrev pub is_held : List (Option Mac) → ℕ → Bool
is_held hosts p = is_some (host_at hosts p)

abbrev pub is_free : List (Option Mac) → ℕ → Bool
is_free hosts p = is_none (host_at hosts p)

abbrev pub has_mac : List ℕ → Option Mac → Bool
has_mac address None = false
has_mac address (Some mac) = bytes_eq mac.0 address

-- an address is held at a place
abbrev pub holds_mac : List ℕ → List (Option Mac) → ℕ → Bool
holds_mac address hosts p = has_mac address (host_at hosts p)

module _ {T : Type 0} where
  -- the entry of a place, where there is an address and a value
  abbrev pub entry : ℕ → Option Mac → Option T → Option (Entry T)
  entry p None value = None
  entry p (Some mac) None = None
  entry p (Some mac) (Some value) =
      Some (record { place = p; port = port_of p; address = mac.0; value = value })

  abbrev pub row : List (Option Mac) → List (Option T) → ℕ → Option (Entry T)
  row hosts values p = entry p (host_at hosts p) (slice_index_or values p None)

  -- the entries of some places, in their order
  abbrev pub entries_of : List (Option Mac) → List (Option T) → List ℕ → List (Entry T)
  entries_of hosts values order = filter_map (row hosts values) order

  -- there are 960 places, each with an address and a value or with neither; the order has each that
  -- is held once, and no other;
  -- and no host of a port is held twice
  pub record AreKept (hosts : List (Option Mac)) (values : List (Option T)) (order : List ℕ) :
      Type 0 where
    pub size : length hosts ≡ 960
    pub values_size : length values ≡ 960
    pub paired : (p : ℕ) → is_some (slice_index_or values p None) ≡ is_held hosts p
    pub listed : (p : ℕ) → list_any (eqb p) order ≡ is_held hosts p
    pub once : IsDistinct eqb order
    pub apart : (p q : ℕ) (address : List ℕ) → holds_mac address hosts p ≡ true →
        holds_mac address hosts q ≡ true
        → port_of p ≡ port_of q → p ≡ q
