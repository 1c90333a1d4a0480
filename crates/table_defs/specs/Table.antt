-- The table that the workers read, and the changes that keep it in step with the state.
use Rattle.std.specs.Prelude.{◌≡◌, ℕ, zero, suc, ◌≤◌, ◌+◌, ◌==◌, ◌&&◌, ◌||◌, nat_lt, not, Bool, true, false, if◌then◌else◌, List, [], ◌∷◌, ◌++◌, length, take, map, filter, find, slice_get, Option, None, Some, is_some}
use Rattle.std.specs.List.{AllByRecursion, range_with_len}
use Rattle.std.specs.Option.{option_map}
use Rattle.std.specs.Str.{bytes_eq}
use Rattle.machine_vars.specs.declared.control.Control.{Control}
use Rattle.wire_defs.specs.Ethernet.{source}
use Rattle.switch_event.specs.declared.config.PortConf.{PortConf}
use Rattle.switch_event.specs.Config.{Config, is_valid}
use Rattle.switch_event.specs.Event.{Happening}
use Rattle.switch_event.specs.declared.decision.Decision.{Decision}
use Rattle.switch_defs.specs.Switch.{Host, State, is_vlan, port_of, opening, same_key, is_at, most_hosts}
use Rattle.switch_defs.specs.Decide.{Right, PortView, view, view_of, authorised, decide, decide_by}
use Rattle.event_record.specs.Entry.{Entry}
use Rattle.switch_defs.specs.History.{after}
use Rattle.switch_defs.specs.Sound.{In, AreFew, IsSound, confs}
use Rattle.switch_defs.specs.Turn.{turn}

-- what is held for an address
pub record Held : Type 0 where
  pub address : List ℕ
  pub right : Right

-- a port, and the addresses that are let in on it
pub record PortRow : Type 0 where
  pub view : PortView
  pub held : List Held

-- as many rows as there are numbers from 0 to 60
abbrev pub row_count : ℕ
row_count = 61

-- for each number from 0 to 60 the port of that number, where one is configured
pub record Table : Type 0 where
  pub rows : List (Option PortRow)

abbrev pub row_in : Option (Option PortRow) → Option PortRow
row_in None = None
row_in (Some row) = row

abbrev pub row_of : ℕ → Table → Option PortRow
row_of n t = row_in (slice_get t.rows n)

abbrev pub view_in : Option PortRow → Option PortView
view_in None = None
view_in (Some r) = Some r.view

abbrev pub held_in : Option PortRow → List Held
held_in None = []
held_in (Some r) = r.held

-- what a change says: a link, a control, whether guests are let in, a right, or that there is none any more
pub data Item : Type 0 where
  Link : (port : ℕ) → (up : Bool) → Item
  SetControl : (port : ℕ) → (control : Control) → Item
  Guest : (port : ℕ) → (on : Bool) → Item
  Let : (port : ℕ) → (address : List ℕ) → (right : Right) → Item
  Bar : (port : ℕ) → (address : List ℕ) → Item

abbrev pub port_named : Item → ℕ
port_named (Link port up) = port
port_named (SetControl port control) = port
port_named (Guest port on) = port
port_named (Let port address right) = port
port_named (Bar port address) = port

-- ---- what is held

abbrev pub holds : List ℕ → Held → Bool
holds address e = bytes_eq e.address address

abbrev pub is_apart : List ℕ → Held → Bool
is_apart address e = not (holds address e)

abbrev pub without : List ℕ → List Held → List Held
without address es = filter (is_apart address) es

abbrev pub right_held : Option Held → Option Right
right_held None = None
right_held (Some e) = Some e.right

abbrev pub right_for : List ℕ → List Held → Option Right
right_for address es = right_held (find (holds address) es)

abbrev pub held_at : Table → ℕ → List ℕ → Option Right
held_at t port address = right_for address (held_in (row_of port t))

-- ---- absorbing

-- guests are let in only where a VLAN is for them
abbrev pub conf_allows : Item → PortConf → Bool
conf_allows (Guest port on) conf = not on || not (conf.guest == 0)
conf_allows (Let port address right) conf = is_vlan right.vlan
conf_allows _ conf = true

-- the address is held already, or there is room for one more beside those of other hosts
abbrev pub has_room : Item → List Held → Bool
has_room (Let port address right) es = is_some (right_for address es) || nat_lt (length es) most_hosts
has_room _ es = true

abbrev pub fits : Item → PortRow → Bool
fits i r = conf_allows i r.view.conf && has_room i r.held

-- what an item makes of its port
abbrev pub view_done : Item → PortView → PortView
view_done (Link port up) p = record p { link = up }
view_done (SetControl port control) p = record p { control = control }
view_done (Guest port on) p = record p { guest_open = on }
view_done (Let port address right) p = p
view_done (Bar port address) p = p

abbrev pub held_done : Item → List Held → List Held
held_done (Let port address right) es = without address es ++ record { address = address; right = right } ∷ []
held_done (Bar port address) es = without address es
held_done _ es = es

abbrev pub done : Item → PortRow → PortRow
done i r = record { view = view_done i r.view; held = held_done i r.held }

-- an item that does not fit changes nothing
abbrev pub done_where_it_fits : Item → PortRow → PortRow
done_where_it_fits i r = if fits i r then done i r else r

-- a list with one place changed
abbrev pub at_place : {X : Type 0} → ℕ → (X → X) → List X → List X
at_place n f [] = []
at_place zero f (x ∷ xs) = f x ∷ xs
at_place (suc n) f (x ∷ xs) = x ∷ at_place n f xs

abbrev pub absorbed : Table → Item → Table
absorbed t i = record { rows = at_place (port_named i) (option_map (done_where_it_fits i)) t.rows }

abbrev pub all_absorbed : Table → List Item → Table
all_absorbed t [] = t
all_absorbed t (i ∷ is) = all_absorbed (absorbed t i) is

-- the item's port is configured, and it fits there
abbrev pub fits_in : Item → Option PortRow → Bool
fits_in i None = false
fits_in i (Some r) = fits i r

abbrev pub can_absorb : Table → Item → Bool
can_absorb t i = fits_in i (row_of (port_named i) t)

-- the items may be absorbed one after another
abbrev pub MayAbsorb : Table → List Item → Type 0
MayAbsorb t [] = Unit {0}
MayAbsorb t (i ∷ is) = (can_absorb t i ≡ true) × MayAbsorb (absorbed t i) is

-- a change is some items, or the end
pub data Change : Type 0 where
  Items : List Item → Change
  Finish : Change

abbrev pub changed : Table → Change → Table
changed t (Items is) = all_absorbed t is
changed t Finish = t

abbrev pub row_opened : PortConf → PortRow
row_opened p = record { view = record { conf = p; link = false; control = p.control; guest_open = false }; held = [] }

abbrev pub conf_of : ℕ → List PortConf → Option PortConf
conf_of n ps = find (λ p. p.port == n) ps

abbrev pub opening_table : Config → Table
opening_table c = record { rows = map (λ n. option_map row_opened (conf_of n c.ports)) (range_with_len 0 row_count) }

abbrev pub decide_table : Table → ℕ → List ℕ → Decision
decide_table t port octets =
    decide_by octets (view_in (row_of port t)) (held_at t port (source octets))

-- ---- a table and a state

-- the same decision for each frame
abbrev pub Agrees : Table → State → Type 0
Agrees t s = (port : ℕ) (octets : List ℕ) → decide_table t port octets ≡ decide s port octets

-- one entry for each address
abbrev pub AreKeys : List Held → Type 0
AreKeys [] = Unit {0}
AreKeys (e ∷ es) = (find (holds e.address) es ≡ None) × AreKeys es

-- the same ports, and exactly what is authorised
pub record Mirrors (t : Table) (s : State) : Type 0 where
  pub ports : (n : ℕ) → view_in (row_of n t) ≡ view_of (port_of n s)
  pub held : (port : ℕ) (address : List ℕ) → held_at t port address ≡ authorised s port address
  pub keys : (port : ℕ) → AreKeys (held_in (row_of port t))

-- ---- what a turn changes

abbrev pub is_view : ℕ → PortView → Bool
is_view n p = p.conf.port == n

abbrev pub view_link : ℕ → Bool → PortView → PortView
view_link n up p = record p { link = if is_view n p then up else p.link }

abbrev pub view_control : ℕ → Control → PortView → PortView
view_control n control p = record p { control = if is_view n p then control else p.control }

abbrev pub view_guest : ℕ → Bool → PortView → PortView
view_guest n on p = record p { guest_open = if is_view n p then on else p.guest_open }

abbrev pub view_absorbed : List PortView → Item → List PortView
view_absorbed ps (Link n up) = map (view_link n up) ps
view_absorbed ps (SetControl n control) = map (view_control n control) ps
view_absorbed ps (Guest n on) = map (view_guest n on) ps
view_absorbed ps (Let port address r) = ps
view_absorbed ps (Bar port address) = ps

abbrev pub views_after : List PortView → List Item → List PortView
views_after ps [] = ps
views_after ps (i ∷ is) = views_after (view_absorbed ps i) is

-- what an item says of a port and an address, where o was so before
abbrev pub said : ℕ → List ℕ → Item → Option Right → Option Right
said port address (Link n up) o = o
said port address (SetControl n control) o = o
said port address (Guest n on) o = o
said port address (Let p a r) o = if same_key p a port address then Some r else o
said port address (Bar p a) o = if same_key p a port address then None else o

abbrev pub all_said : ℕ → List ℕ → List Item → Option Right → Option Right
all_said port address [] o = o
all_said port address (i ∷ is) o = all_said port address is (said port address i o)

-- the items lead from what one state authorises to what the other does
pub record Leads (s : State) (is : List Item) (new : State) : Type 0 where
  pub ports : views_after (map view s.ports) is ≡ map view new.ports
  pub rights : (port : ℕ) (address : List ℕ) → all_said port address is (authorised s port address) ≡ authorised new port address

-- who is authorised is among hosts of whom no port has too many
abbrev pub Rights : Type 0
Rights = ℕ → List ℕ → Option Right

abbrev pub AreRoomy : Rights → Type 0
AreRoomy f = (hs : List Host) × AreFew hs × ((port : ℕ) (address : List ℕ) (r : Right) → f port address ≡ Some r → find (is_at port address) hs ≡ None → ⊥)

-- so it is after each item
abbrev pub StayRoomy : Rights → List Item → Type 0
StayRoomy f [] = Unit {0}
StayRoomy f (i ∷ is) = AreRoomy (λ port address. said port address i (f port address)) × StayRoomy (λ port address. said port address i (f port address)) is

-- an item is of a configured port, and its settings allow it
abbrev pub allowed_by : Item → Option PortConf → Bool
allowed_by i None = false
allowed_by i (Some conf) = conf_allows i conf

abbrev pub IsAllowed : List PortConf → Item → Type 0
IsAllowed ps i = allowed_by i (conf_of (port_named i) ps) ≡ true

-- what a turn tells the table
pub record Tells (s : State) (is : List Item) (new : State) : Type 0 where
  pub leads : Leads s is new
  pub allowed : AllByRecursion (IsAllowed (confs s.ports)) is
  pub room : StayRoomy (authorised s) is
  pub few : length is ≤ length s.sessions + length s.ports + 2

-- the changes tell of the history: after as many of each, table and state agree
abbrev pub changed_by : Table → List Change → Table
changed_by t [] = t
changed_by t (c ∷ cs) = changed_by (changed t c) cs

abbrev pub IsItems : Change → Type 0
IsItems (Items is) = Unit {0}
IsItems Finish = ⊥

pub record TellsAll (c : Config) (cs : List Change) (h : List Entry) : Type 0 where
  pub alike : length cs ≡ length h
  pub going : (change : Change) → In change cs → IsItems change
  pub agree : (n : ℕ) → n ≤ length h → Agrees (changed_by (opening_table c) (take n cs)) (after c (take n h))

-- ---- laws

-- each turn of a sound state has items that tell of it
abbrev pub IsTold : Type 0
IsTold = (turns : ℕ) (s : State) (e : Happening) → IsSound turns s → (is : List Item) × Tells s is (turn s e).state

-- items that tell of a turn may be absorbed, and keep a table in step
abbrev pub IsKept : Type 0
IsKept = (t : Table) (s new : State) (is : List Item) → Mirrors t s → Tells s is new → MayAbsorb t is × Mirrors (all_absorbed t is) new

abbrev pub IsEnough : Type 0
IsEnough = (t : Table) (s : State) → Mirrors t s → Agrees t s

-- the table of a Config is in step with its opening
abbrev pub IsBegun : Type 0
IsBegun = (c : Config) → is_valid c ≡ true → Mirrors (opening_table c) (opening c)

-- a list of changes goes on with a history
abbrev pub IsContinued : Type 0
IsContinued = (c : Config) (cs : List Change) (h : List Entry) (e : Entry) (is : List Item) → TellsAll c cs h → Mirrors (changed_by (opening_table c) cs) (after c h) →
    Tells (after c h) is (turn (after c h) e.event).state → TellsAll c (cs ++ Items is ∷ []) (h ++ e ∷ []) × Mirrors (changed_by (opening_table c) (cs ++ Items is ∷ [])) (after c (h ++ e ∷ []))

-- a change has room for the items of any turn
abbrev pub most_items : ℕ
most_items = 1024

abbrev pub AreItemsFew : Type 0
AreItemsFew = (turns : ℕ) (s new : State) (is : List Item) → IsSound turns s → Tells s is new → length is ≤ most_items
