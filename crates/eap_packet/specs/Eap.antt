-- What a packet means: its fields as lists and numbers.
use Rattle.std.specs.Prelude.{Result, Ok, Err}
use Rattle.eap_packet.specs.declared.read.Eap.{Eap}
use Rattle.wire_defs.specs.declared.EapDrop.{EapDrop}
use Rattle.wire_defs.specs.Eap.{Eap as Fields}

abbrev pub fields : Eap → Fields
fields eap = record { code = eap.code; id = eap.id; kind = eap.kind; rest = eap.rest.now; whole = eap.whole.now }

-- what reading answers
abbrev pub meaning : Result Eap EapDrop → Result Fields EapDrop
meaning (Ok eap) = Ok (fields eap)
meaning (Err drop) = Err drop
