-- What is done to the ports of a switch.
use Rattle.std.specs.Prelude.{◌≡◌, ◌&&◌, ◌++◌, ℕ, Bool, false, List, map, Option}
use Rattle.std.specs.List.{list_any}
use Rattle.std.specs.Option.{option_map}
use Rattle.std.specs.Borrow.{Bor}
use Rattle.machine_vars.specs.declared.vars.Vars.{Vars}
use Rattle.machine_defs.specs.BackendTable.{is_auto}
use Rattle.machine_defs.specs.Live.{Live, to_all}
use Rattle.settle_defs.specs.Settle.{settled}
use Rattle.switch_event.specs.Frames.{frames}
use Rattle.out_tray.specs.Tray.{Things}
use Rattle.switch_defs.specs.Switch.{Port, is_port}
use Rattle.switch_defs.specs.Turn.{with_forced}

-- the port of a number, where it is shown
abbrev pub shown : Option (Bor Port) → Option Port
shown port = option_map (λ p. p.now) port

-- a port that may be greeted: its variables are those of a forced port
pub record IsForced (p : Port) : Type 0 where
  pub live : Live p.forced
  pub forced : is_auto p.forced.port_control ≡ false

-- a port with these variables settled, after which it speaks to all hosts again
abbrev pub settled_to : Vars → Port → Port
settled_to v p = record p { forced = to_all (settled v).vars }

abbrev pub settled_at : ℕ → Vars → List Port → List Port
settled_at n v ps = map (with_forced n (to_all (settled v).vars)) ps

-- the tray after what settling them sends
abbrev pub with_said : Vars → Things → Things
with_said v before = record before { items = before.items ++ frames (settled v).vars (settled v).packets }

-- the port of this number lets guests in
abbrev pub lets_guests : ℕ → List Port → Bool
lets_guests n ps = list_any (λ p. is_port n p && p.guest_open) ps
