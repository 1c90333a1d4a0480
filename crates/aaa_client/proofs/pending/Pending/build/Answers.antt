use Rattle.std.proofs.Common.{◌≡◌, ◌∙◌, ℕ, List, ap, refl, arith}
use Rattle.switch_event.specs.Config.{Config}
use Rattle.radius_defs.specs.Packet.{packet_text}
use Rattle.radius_defs.specs.Message.{signed}
use Rattle.aaa_defs.specs.Request.{Ask, request_octets, unsigned_request}
use Rattle.aaa_defs.specs.Waits.{identifier_of, name_of}
use Rattle.aaa_client.proofs.pending.Pending.build.Goals as goal

octets-are : (c : Config) (a : Ask) (session identifier : ℕ) (auth : List ℕ) → packet_text (signed (unsigned_request c a session identifier auth) auth c.secret) ≡ request_octets c a session identifier auth
unfolding request_octets
octets-are c a session identifier auth = refl

pub returns : goal.returns
returns c =
    let name : name_of c.socket_and_id-socket.result.0 c.socket_and_id-socket.result.1 ≡ c.args.name =
    omega (arith, c.socket_and_id-socket.ensures.socket, c.socket_and_id-socket.ensures.identifier) in
    let identifier : c.socket_and_id-socket.result.1 ≡ identifier_of c.args.name = c.socket_and_id-socket.ensures.identifier in
    let octets : packet_text c.write_request.new.packet ≡ request_octets c.args.c.now c.args.a.now c.args.session (identifier_of c.args.name) c.args.auth =
    ap packet_text c.write_request.ensures
    ∙ octets-are c.args.c.now c.args.a.now c.args.session c.socket_and_id-socket.result.1 c.args.auth
    ∙ ap (λ (i : ℕ). request_octets c.args.c.now c.args.a.now c.args.session i c.args.auth) identifier in
    ap (λ (n : ℕ). record { session = c.args.session; name = n; auth = c.args.auth; age = 0; octets = packet_text c.write_request.new.packet }) name
    ∙ ap (λ (o : List ℕ). record { session = c.args.session; name = c.args.name; auth = c.args.auth; age = 0; octets = o }) octets
