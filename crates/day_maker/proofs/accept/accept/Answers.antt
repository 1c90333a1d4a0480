use Rattle.std.proofs.Common.{◌≡◌, ℕ, List, ap, ◌∙◌}
use Rattle.radius_defs.specs.Packet.{Packet, packet_text}
use Rattle.radius_defs.specs.Digest.{response_auth}
use Rattle.radius_defs.specs.Message.{signed, behind_first}
use Rattle.day_defs.specs.Server.{secret, unsigned_accept, signed_accept, accept, accept_octets}
use Rattle.day_maker.proofs.accept.accept.Goals as goal

pub returns : goal.returns
unfolding accept_octets
returns c =
    let q = c.args.question.now in
    let built : Packet = c.sign.new.packet in
    let behind : behind_first c.unsigned-packet.result ≡ unsigned_accept c.args.host q = ap behind_first c.unsigned-packet.ensures in
    let signed_is : built ≡ signed_accept c.args.host q = c.sign.ensures.packet ∙ ap (λ (p : Packet). signed p q.authenticator secret) behind in
    let value : c.response_auth-auth.result ≡ response_auth (packet_text built) q.authenticator secret =
    c.response_auth-auth.ensures ∙ ap (λ (text : List ℕ). response_auth text q.authenticator secret) c.octets.ensures.text in
    let whole : c.set_auth.new.self ≡ accept c.args.host q =
    c.set_auth.ensures
    ∙ ap (λ (a : List ℕ). record built { authenticator = a }) value
    ∙ ap (λ (p : Packet). record p { authenticator = response_auth (packet_text p) q.authenticator secret }) signed_is in
    ap packet_text whole
