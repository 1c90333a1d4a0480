-- What a packet means: its fields as lists and numbers.
use Rattle.std.specs.Prelude.{Result, Ok, Err}
use Rattle.eapol_frame.specs.declared.read.Eapol.{Eapol}
use Rattle.wire_defs.specs.declared.EapolDrop.{EapolDrop}
use Rattle.wire_defs.specs.Eapol.{Eapol as Fields}

abbrev pub fields : Eapol → Fields
fields eapol = record { version = eapol.version; kind = eapol.kind; body = eapol.body.now }

-- what reading answers
abbrev pub meaning : Result Eapol EapolDrop → Result Fields EapolDrop
meaning (Ok eapol) = Ok (fields eapol)
meaning (Err drop) = Err drop
