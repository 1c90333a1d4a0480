-- What a row sends is known by its name, also after it.
use Rattle.std.proofs.Common.{◌≡◌, ◌++◌, refl}
use Rattle.machine_vars.specs.declared.vars.Vars.{Vars}
use Rattle.machine_defs.specs.Table.{Line}
use Rattle.machine_defs.specs.PaeTable.{pae_table}
use Rattle.machine_defs.specs.BackendTable.{backend_table}
use Rattle.machine_defs.specs.ReauthTable.{reauth_table}
use Rattle.machine_defs.specs.EapTable.{eap_table}
use Rattle.machine_defs.specs.Settling.{all_rows}
use Rattle.machine_defs.proofs.Growth.{Each, each_append}
use Rattle.port_machine.specs.Sends.{sent_by}

abbrev pub Named : Line → Type 0
Named l = (v : Vars) → l.sends v ≡ sent_by l.name (l.after v)

named_pae : Each Named pae_table
named_pae = (λ v. refl, (λ v. refl, (λ v. refl, (λ v. refl, (λ v. refl, (λ v. refl, (λ v. refl, (λ v. refl, (λ v. refl, (λ v. refl, (λ v. refl, (λ v. refl, (λ v. refl, (λ v. refl, (λ v. refl, (λ v. refl, (λ v. refl, (λ v. refl, tt))))))))))))))))))

named_backend : Each Named backend_table
named_backend = (λ v. refl, (λ v. refl, (λ v. refl, (λ v. refl, (λ v. refl, (λ v. refl, (λ v. refl, (λ v. refl, (λ v. refl, (λ v. refl, (λ v. refl, (λ v. refl, (λ v. refl, (λ v. refl, tt))))))))))))))

named_reauth : Each Named reauth_table
named_reauth = (λ v. refl, (λ v. refl, (λ v. refl, tt)))

named_eap : Each Named eap_table
named_eap = (λ v. refl, (λ v. refl, (λ v. refl, (λ v. refl, (λ v. refl, (λ v. refl, (λ v. refl, (λ v. refl, (λ v. refl, (λ v. refl, (λ v. refl, (λ v. refl, (λ v. refl, (λ v. refl, (λ v. refl, (λ v. refl, (λ v. refl, tt)))))))))))))))))

pub all_named : Each Named all_rows
all_named = each_append Named (pae_table ++ backend_table ++ reauth_table) eap_table
    (each_append Named (pae_table ++ backend_table) reauth_table (each_append Named pae_table backend_table named_pae named_backend) named_reauth) named_eap
