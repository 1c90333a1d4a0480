-- A part of a turn.
use Rattle.std.specs.Prelude.{◌≡◌, ◌⊎◌, ◌++◌, ℕ, Bool, if◌then◌else◌, List, [], ◌∷◌, map, Option}
use Rattle.settle_defs.specs.Settle.{settled}
use Rattle.switch_defs.specs.Switch.{Host, Port, Standing, State}
use Rattle.switch_defs.specs.Session.{armed}
use Rattle.switch_defs.specs.Decide.{Right}
use Rattle.switch_defs.specs.Moving.{Moved}
use Rattle.table_defs.specs.Table.{Item}
use Rattle.table_defs.specs.Told.{Aside, Speaks, ToldBy, item_by}

-- whether a session that is settled with this standing is given up
abbrev pub is_gone : Standing → Bool
is_gone x = (settled x.vars).vars.gone

-- the ports once one of them was armed, where its session was closed
abbrev pub armed_if : Bool → ℕ → State → List Port → List Port
armed_if closed n t ps = if closed then map (armed n t.sessions t.config.guest_wait) ps else ps

-- of all that is not the sessions, their requests and their numbers, a part that was done to a session of a port leaves as it was all
-- but the port, which is armed where the session was closed
pub record Beside (closed : Bool) (n : ℕ) (s t : State) : Type 0 where
  pub config : t.config ≡ s.config
  pub clock : t.clock ≡ s.clock
  pub ports : t.ports ≡ armed_if closed n t s.ports
  pub kept : t.kept ≡ s.kept

-- what was done changes nothing for other hosts, and what it makes of this one may be told
pub record Near (h : Host) (s t : State) : Type 0 where
  pub aside : Aside h s t
  pub moved : Moved s t
  pub speaks : Speaks h s t

-- items that tell of a change up to one state do so, with more, up to another
abbrev pub TellsOn : State → State → (before after : List Item) → Type 0
TellsOn s t before after = (start : State) → ToldBy before start s → ToldBy after start t

-- what a host is authorised for is told where it has changed
abbrev pub Notes : Host → (was is : Option Right) → (before after : List Item) → Type 0
Notes h was is before after = ((was ≡ is) × (after ≡ before)) ⊎ (after ≡ before ++ item_by h is ∷ [])
