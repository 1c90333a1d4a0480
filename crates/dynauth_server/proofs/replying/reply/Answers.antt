use Rattle.std.proofs.Common.{◌≡◌, ◌+◌, ◌≤◌, ◌++◌, ℕ, List, length, ap, ◌∙◌, arith}
use Rattle.arrayvec.specs.ArrayVec.{array_vec_len}
use Rattle.radius_defs.specs.Packet.{Packet, packet_text}
use Rattle.radius_defs.specs.Digest.{response_auth}
use Rattle.radius_defs.specs.Message.{signed}
use Rattle.dynauth_defs.specs.Reply.{unsigned_reply, signed_reply, reply_packet}
use Rattle.dynauth_server.proofs.ReplyLemmas.{text-length, awaits, behind-signed, is-done}
use Rattle.dynauth_server.proofs.replying.reply.Goals as goal

pub sign-requires : goal.sign-requires
sign-requires c = awaits c.args.request.now c.args.cause c.awaiting-built.result c.awaiting-built.ensures

pub returns : goal.returns
returns c =
    let request = c.args.request.now in
    let secret : List ℕ = c.args.secret.now in
    let built : Packet = c.sign.new.packet in
    let auth : c.request.inside.auth ≡ request.authenticator = ap (λ (p : Packet). p.authenticator) c.request.view_is in
    let value : c.response_auth-auth.result ≡ response_auth (packet_text built) request.authenticator secret =
    c.response_auth-auth.ensures
    ∙ ap (λ (text : List ℕ). response_auth text c.request.inside.auth secret) c.octets.ensures.text
    ∙ ap (λ (a : List ℕ). response_auth (packet_text built) a secret) auth in
    let signed_is : built ≡ signed_reply request c.args.cause secret =
    c.sign.ensures.packet
    ∙ ap (λ (p : Packet). signed p c.request.inside.auth secret) (behind-signed request c.args.cause c.awaiting-built.result c.awaiting-built.ensures)
    ∙ ap (λ (a : List ℕ). signed (unsigned_reply request c.args.cause) a secret) auth in
    let whole : c.set_auth.new.self ≡ reply_packet request c.args.cause secret =
    c.set_auth.ensures
    ∙ ap (λ (a : List ℕ). record built { authenticator = a }) value
    ∙ ap (λ (p : Packet). record p { authenticator = response_auth (packet_text p) request.authenticator secret }) signed_is in
    let size = text-length c.set_auth.new.self c.octets-2.ensures.fits in
    let fits : array_vec_len c.clear.new.self + length c.octets-2.result.now ≤ 4096 = omega (arith, size, ap (λ (xs : List ℕ). length xs) c.octets-2.ensures.text, ap (λ (xs : List ℕ). length xs) c.clear.ensures, c.octets-2.ensures.fits.body) in
    is-done c.try_extend_from_slice-fits.result (c.try_extend_from_slice-fits.ensures.variant.1 fits) c.try_extend_from_slice-fits.ensures.ok
    ∙ ap (λ (front : List ℕ). front ++ c.octets-2.result.now) c.clear.ensures
    ∙ c.octets-2.ensures.text
    ∙ ap packet_text whole
