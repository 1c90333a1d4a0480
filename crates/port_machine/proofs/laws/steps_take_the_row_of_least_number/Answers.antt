use Rattle.machine_defs.specs.PaeTable.{pae_table}
use Rattle.machine_defs.specs.BackendTable.{backend_table}
use Rattle.machine_defs.specs.ReauthTable.{reauth_table}
use Rattle.machine_defs.specs.EapTable.{eap_table}
use Rattle.machine_defs.proofs.Laws.{pae_rising, backend_rising, reauth_rising, eap_rising, takes_least, takes_none}
use Rattle.port_machine.proofs.laws.steps_take_the_row_of_least_number.Goals as goal

pub returns-clause-port_access : goal.returns-clause-port_access
returns-clause-port_access c = λ v w r h. takes_least pae_table pae_rising v w r h

pub returns-clause-backend : goal.returns-clause-backend
returns-clause-backend c = λ v w r h. takes_least backend_table backend_rising v w r h

pub returns-clause-reauthentication : goal.returns-clause-reauthentication
returns-clause-reauthentication c = λ v w r h. takes_least reauth_table reauth_rising v w r h

pub returns-clause-pass_through : goal.returns-clause-pass_through
returns-clause-pass_through c = λ v w r h. takes_least eap_table eap_rising v w r h

pub returns-clause-no_port_access : goal.returns-clause-no_port_access
returns-clause-no_port_access c = λ v w h. takes_none pae_table v w h

pub returns-clause-no_backend : goal.returns-clause-no_backend
returns-clause-no_backend c = λ v w h. takes_none backend_table v w h

pub returns-clause-no_reauthentication : goal.returns-clause-no_reauthentication
returns-clause-no_reauthentication c = λ v w h. takes_none reauth_table v w h

pub returns-clause-no_pass_through : goal.returns-clause-no_pass_through
returns-clause-no_pass_through c = λ v w h. takes_none eap_table v w h
