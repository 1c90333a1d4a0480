-- The reauthentication timer machine (IEEE Std 802.1X-2004, 8.2).
use Rattle.std.specs.Prelude.{ℕ, Bool, true, false, ◌&&◌, ◌||◌, not, List, [], ◌∷◌}
use Rattle.machine_vars.specs.declared.vars.Vars.{Vars}
use Rattle.machine_vars.specs.declared.states.Row.TheVariants.{A}
use Rattle.machine_vars.specs.declared.states.Reauth.{Reauth}
use Rattle.machine_vars.specs.declared.states.Reauth.TheVariants.{Initialize, Reauthenticate}
use Rattle.machine_defs.specs.BackendTable.{is_auto}
use Rattle.machine_defs.specs.Table.{Line, is_zero}

abbrev pub is_initialize : Reauth → Bool
is_initialize Initialize = true
is_initialize Reauthenticate = false

-- the timer stands while the host is not authorized or is not to be authenticated again
abbrev pub stops : Vars → Bool
stops v =
    not (is_auto v.port_control) || v.initialize || not v.auth_port_status || not v.re_auth_enabled

abbrev pub nothing : Vars → List (List ℕ)
nothing v = []

-- what each state does as it is entered
abbrev pub initialize : Vars → Vars
initialize v = record v { reauth = Initialize; re_auth_when = v.re_auth_period }

abbrev pub reauthenticate : Vars → Vars
reauthenticate v = record v { reauth = Reauthenticate; re_authenticate = true }

abbrev pub reauth_table : List Line
reauth_table =
    record {
      name = A 1;
      condition = λ v. stops v && not (is_initialize v.reauth);
      after = initialize;
      sends = nothing;
    }
    ∷ record {
      name = A 2;
      condition = λ v. not (stops v) && (is_initialize v.reauth && is_zero v.re_auth_when);
      after = reauthenticate;
      sends = nothing;
    }
    ∷ record {
      name = A 3;
      condition = λ v. not (stops v) && not (is_initialize v.reauth);
      after = initialize;
      sends = nothing;
    }
    ∷ []
