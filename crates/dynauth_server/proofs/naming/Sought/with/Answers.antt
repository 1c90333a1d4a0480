use Rattle.std.proofs.Common.{◌≡◌, ◌∙◌, ap, sym, Option, Some, arith}
use Rattle.std.specs.Option.{option_map}
use Rattle.radius_packet.specs.Views.{value_in}
use Rattle.wire_core.specs.declared.address.Mac.{Mac}
use Rattle.wire_defs.specs.Station.{station_of}
use Rattle.dynauth_server.specs.declared.naming.Sought.{Sought}
use Rattle.dynauth_server.specs.Sought.{names, names_in}
use Rattle.dynauth_server.proofs.SoughtLemmas.{of_identity, of_port, of_address, of_session, no_address, no_session, of_another_kind}
use Rattle.dynauth_server.proofs.naming.Sought.with.Goals as goal
use Rattle.dynauth_server.proofs.naming.Sought.with.Goals.{in-1+in_ok-agreed_octets-in-1, in-5+in_ok-number-in-5+in_ok-agreed_number-in-5, in-31+in_ok-station_of-in-31+in_ok-agreed_address-in-31, in-44+in_ok-agreed_octets-in-44, in_default}

pub returns-in_err-agreed_address-in-31 : goal.returns-in_err-agreed_address-in-31
returns-in_err-agreed_address-in-31 c = λ row.
    let mac = c.in_ok-station_of-in-31.field-0 in
    let read : Some mac.0 ≡ station_of c.args.value.now = sym (ap (option_map (λ (m : Mac). m.0)) c.in_ok-station_of-in-31.was) ∙ c.station_of.ensures in
    ap (λ (n : Option Sought). names_in n row) c.from_residual-in_err-agreed_address-in-31.ensures
    ∙ no_address c.args.self row c.args.kind c.args.value.now mac c.in-31.is read (sym c.in_err-agreed_address-in-31.was ∙ c.agreed_address.ensures)

pub returns-in_err-agreed_octets-in-44 : goal.returns-in_err-agreed_octets-in-44
returns-in_err-agreed_octets-in-44 c = λ row.
    ap (λ (n : Option Sought). names_in n row) c.from_residual-in_err-agreed_octets-in-44.ensures
    ∙ no_session c.args.self row c.args.kind c.args.value.now c.in-44.is (sym (ap value_in c.in_err-agreed_octets-in-44.was) ∙ c.agreed_octets-in-44.ensures)

pub returns : goal.returns
returns c = λ row.
    elim c.match-kind.branch [
      | in-1+in_ok-agreed_octets-in-1 w ↦
          ap (λ (s : Sought). names s row) w.sought-is
          ∙ of_identity c.args.self row c.args.kind c.args.value.now (Some w.in_ok-agreed_octets-in-1.field-0) w.in-1.is
          (sym (ap value_in w.in_ok-agreed_octets-in-1.was) ∙ w.agreed_octets.ensures)
      | in-5+in_ok-number-in-5+in_ok-agreed_number-in-5 w ↦
          ap (λ (s : Sought). names s row) w.sought-is
          ∙ of_port c.args.self row c.args.kind c.args.value.now w.in_ok-number-in-5.field-0 (Some w.in_ok-agreed_number-in-5.field-0) w.in-5.is
          (sym w.in_ok-number-in-5.was ∙ w.number.ensures) (sym w.in_ok-agreed_number-in-5.was ∙ w.agreed_number.ensures)
      | in-31+in_ok-station_of-in-31+in_ok-agreed_address-in-31 w ↦
          ap (λ (s : Sought). names s row) w.sought-is
          ∙ of_address c.args.self row c.args.kind c.args.value.now w.in_ok-station_of-in-31.field-0 (Some w.in_ok-agreed_address-in-31.field-0) w.in-31.is
          (sym (ap (option_map (λ (m : Mac). m.0)) w.in_ok-station_of-in-31.was) ∙ w.station_of.ensures) (sym w.in_ok-agreed_address-in-31.was ∙ w.agreed_address.ensures)
      | in-44+in_ok-agreed_octets-in-44 w ↦
          ap (λ (s : Sought). names s row) w.sought-is
          ∙ of_session c.args.self row c.args.kind c.args.value.now (Some w.in_ok-agreed_octets-in-44.field-0) w.in-44.is
          (sym (ap value_in w.in_ok-agreed_octets-in-44.was) ∙ w.agreed_octets-in-44.ensures)
      | in_default w ↦
          ap (λ (s : Sought). names s row) w.sought-is
          ∙ of_another_kind c.args.self row c.args.kind c.args.value.now (omega arith) (omega arith) (omega arith) (omega arith)
    ]
