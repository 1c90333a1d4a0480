-- The frames in which EAP packets go to a host (IEEE Std 802.1X-2004, 7.2 and 7.5).
use Rattle.std.specs.Prelude.{ℕ, List, map}
use Rattle.wire_defs.specs.Ethernet.{plain_text, eapol_kind}
use Rattle.wire_defs.specs.Eapol.{eapol_text}
use Rattle.machine_vars.specs.declared.vars.Vars.{Vars}
use Rattle.switch_event.specs.Sent.{Sent, ToHost}

-- the whole frame that carries an EAP packet, in EAPOL of version 2, without padding
abbrev pub eap_frame : (to source eap : List ℕ) → List ℕ
eap_frame to source eap = plain_text (record { to = to; source = source; kind = eapol_kind; body = eapol_text eap })

-- an EAP packet of a session, or of a forced port, goes from the port to its peer
abbrev pub to_peer : Vars → (eap : List ℕ) → Sent
to_peer v eap = ToHost v.port (eap_frame v.peer v.own eap)

-- the frames of some packets, in order
abbrev pub frames : Vars → (packets : List (List ℕ)) → List Sent
frames v packets = map (to_peer v) packets
