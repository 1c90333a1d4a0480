-- The machines one after another make the next row.
use Rattle.std.proofs.Common.{◌≡◌, ◌++◌, Option, Some, None, ◌∙◌}
use Rattle.machine_vars.specs.declared.vars.Vars.{Vars}
use Rattle.machine_vars.specs.declared.states.Row.{Row}
use Rattle.machine_defs.specs.Table.{TakesFirst}
use Rattle.machine_defs.specs.PaeTable.{pae_table}
use Rattle.machine_defs.specs.BackendTable.{backend_table}
use Rattle.machine_defs.specs.ReauthTable.{reauth_table}
use Rattle.machine_defs.specs.EapTable.{eap_table}
use Rattle.machine_defs.specs.Settling.{all_rows, TakesNext}
use Rattle.machine_defs.proofs.Growth.{first_takes, then_takes, rests_same}

of_all : (v w : Vars) (r : Option Row) → TakesFirst all_rows v r w → TakesNext v r w
of_all v w r h = h

pub by_pae : (v w : Vars) (r : Row) → TakesFirst pae_table v (Some r) w → TakesNext v (Some r) w
by_pae v w r p = of_all v w (Some r)
    (first_takes (pae_table ++ backend_table ++ reauth_table) eap_table v w r (first_takes (pae_table ++ backend_table) reauth_table v w r (first_takes pae_table backend_table v w r p)))

pub by_backend : (v m w : Vars) (r : Row) → TakesFirst pae_table v None m → TakesFirst backend_table m (Some r) w → TakesNext v (Some r) w
by_backend v m w r p q = of_all v w (Some r)
    (first_takes (pae_table ++ backend_table ++ reauth_table) eap_table v w r (first_takes (pae_table ++ backend_table) reauth_table v w r (then_takes pae_table backend_table v m w (Some r) p q)))

pub by_reauth : (v m n w : Vars) (r : Row) → TakesFirst pae_table v None m → TakesFirst backend_table m None n → TakesFirst reauth_table n (Some r) w → TakesNext v (Some r) w
by_reauth v m n w r p q s = of_all v w (Some r)
    (first_takes (pae_table ++ backend_table ++ reauth_table) eap_table v w r
    (then_takes (pae_table ++ backend_table) reauth_table v n w (Some r) (then_takes pae_table backend_table v m n None p q) s))

pub by_eap : (v m n o w : Vars) (r : Option Row) → TakesFirst pae_table v None m → TakesFirst backend_table m None n → TakesFirst reauth_table n None o → TakesFirst eap_table o r w → TakesNext v r w
by_eap v m n o w r p q s t = of_all v w r
    (then_takes (pae_table ++ backend_table ++ reauth_table) eap_table v o w r
    (then_takes (pae_table ++ backend_table) reauth_table v n o None (then_takes pae_table backend_table v m n None p q) s) t)

pub all_rest : (v m n o : Vars) → TakesFirst pae_table v None m → TakesFirst backend_table m None n → TakesFirst reauth_table n None o → o ≡ v
all_rest v m n o p q s = rests_same reauth_table n o s ∙ rests_same backend_table m n q ∙ rests_same pae_table v m p
