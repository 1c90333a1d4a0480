-- What each row sends, by its name.
use Rattle.std.specs.Prelude.{ℕ, List, [], ◌∷◌, ◌==◌, ◌||◌, if◌then◌else◌}
use Rattle.machine_vars.specs.declared.vars.Vars.{Vars}
use Rattle.machine_vars.specs.declared.states.Row.{Row}
use Rattle.machine_vars.specs.declared.states.Row.TheVariants.{P, B, A, E}
use Rattle.machine_defs.specs.PaeTable.{success, failure}

-- what goes out after a row, by its name
abbrev pub sent_by : Row → Vars → List (List ℕ)
sent_by (P n) v = if n == 2 || n == 17 then success v else (if n == 3 || n == 18 then failure v else [])
sent_by (B n) v = if n == 3 || n == 5 || n == 12 || n == 13 then v.aaa_eap_req_data.items ∷ [] else (if n == 4 || n == 7 || n == 10 then v.last_req_data.items ∷ [] else [])
sent_by (A n) v = []
sent_by (E n) v = []
