use Rattle.std.proofs.Common.{◌≡◌, ◌<◌, true, length, subst, sym}
use Rattle.machine_vars.specs.declared.vars.Vars.{Vars}
use Rattle.port_machine.proofs.Scan.{by_pae, by_backend, by_reauth, by_eap, all_rest}
use Rattle.port_machine.proofs.settling.next_row.Goals as goal

pub returns-in-Some : goal.returns-in-Some
returns-in-Some c = by_pae c.args.v.now c.step.new.v c.in-Some.row c.in-Some.ensures

pub returns-in-Some-step : goal.returns-in-Some-step
returns-in-Some-step c = by_backend c.args.v.now c.step.new.v c.step-2.new.v c.in-Some-step.row c.in_default.ensures c.in-Some-step.ensures

pub returns-in-Some-step-2 : goal.returns-in-Some-step-2
returns-in-Some-step-2 c = by_reauth c.args.v.now c.step.new.v c.step-2.new.v c.step-3.new.v c.in-Some-step-2.row c.in_default.ensures c.in_default-step.ensures c.in-Some-step-2.ensures

pub step-requires-4-clause-count : goal.step-requires-4-clause-count
step-requires-4-clause-count c =
    let same = all_rest c.args.v.now c.step.new.v c.step-2.new.v c.step-3.new.v c.in_default.ensures c.in_default-step.ensures c.in_default-step-2.ensures in
    let P : Vars → Type 0 = λ x. x.retrans_count < 4294967295 in
    subst P (sym same) c.requires.again

pub step-requires-4-clause-held : goal.step-requires-4-clause-held
step-requires-4-clause-held c =
    let same = all_rest c.args.v.now c.step.new.v c.step-2.new.v c.step-3.new.v c.in_default.ensures c.in_default-step.ensures c.in_default-step-2.ensures in
    let P : Vars → Type 0 = λ x. x.aaa_eap_req ≡ true → 1 < length x.aaa_eap_req_data.items in
    subst P (sym same) c.requires.packet

pub returns : goal.returns
returns c = by_eap c.args.v.now c.step.new.v c.step-2.new.v c.step-3.new.v c.step-4.new.v c.step-4.result c.in_default.ensures c.in_default-step.ensures c.in_default-step-2.ensures c.step-4.ensures
