-- Settling as a function (IEEE Std 802.1X-2004, 8.2.1): rows are taken until none is enabled, and 48 are
-- always enough.
use Rattle.std.specs.Prelude.{ℕ, zero, suc, [], ◌++◌, None, Some}
use Rattle.machine_vars.specs.declared.vars.Vars.{Vars}
use Rattle.machine_defs.specs.Settling.{next}
pub use Rattle.machine_defs.specs.Settling.{Rest}

-- at most n rows are taken
abbrev pub settled_in : ℕ → Vars → Rest
settled_in zero v = record { vars = v; packets = [] }
settled_in (suc n) v = elim (next v) [
  | None ↦ record { vars = v; packets = [] }
  | Some l ↦ record {
    vars = (settled_in n (l.after v)).vars;
    packets = l.sends v ++ (settled_in n (l.after v)).packets;
  }
]

-- opaque to tactics: a goal that names it never looks through the tables
unfoldable pub settled : Vars → Rest
settled v = settled_in 48 v
