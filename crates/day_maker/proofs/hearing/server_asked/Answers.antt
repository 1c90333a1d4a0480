use Rattle.std.proofs.Common.{◌≡◌, ◌<◌, ℕ, List, true, sym, ap, ◌∙◌, lt-ltb}
use Rattle.std.specs.Prelude.{Option, Some, None, nat_lt}
use Rattle.radius_defs.specs.Packet.{Packet}
use Rattle.radius_defs.specs.Parsed.{packet_of}
use Rattle.radius_defs.proofs.ParsedLemmas.{packet-of-some, packet-of-none}
use Rattle.switch_event.specs.Sent.{ToServer}
use Rattle.day_defs.specs.declared.TheConstants.{SOCKETS}
use Rattle.day_defs.specs.Server.{question_in, server_asked}
use Rattle.day_maker.proofs.hearing.server_asked.Goals as goal

asked_by : (socket : ℕ) (octets : List ℕ) (o : Option Packet) → socket < SOCKETS → packet_of octets ≡ o → question_in socket o ≡ server_asked (ToServer socket octets)
asked_by socket octets o within is =
    let in_range : nat_lt socket SOCKETS ≡ true = lt-ltb socket SOCKETS within in
    rw in_range (ap (question_in socket) (sym is))

pub returns-in-Ok : goal.returns-in-Ok
returns-in-Ok c =
    c.question_in.ensures
    ∙ asked_by c.args.socket c.args.octets.now (Some c.in-Ok.packet) c.if-socket-ge-SOCKETS.false (packet-of-some c.args.octets.now c.in-Ok.packet c.in-Ok.ensures.exact)

pub returns-in-Err : goal.returns-in-Err
returns-in-Err c =
    asked_by c.args.socket c.args.octets.now None c.if-socket-ge-SOCKETS.false (packet-of-none c.args.octets.now c.in-Err.field-0 c.in-Err.ensures.exact)
