use Rattle.std.proofs.Common.{◌≡◌, ◌∙◌, ℕ, List, [], ◌++◌, ap, sym}
use Rattle.switch_event.specs.Config.{Config}
use Rattle.radius_defs.specs.declared.attribute.TheConstants.{MESSAGE_AUTHENTICATOR}
use Rattle.radius_defs.specs.declared.code.TheConstants.{ACCESS_REQUEST}
use Rattle.radius_defs.specs.Packet.{Packet, first_value}
use Rattle.radius_defs.specs.Digest.{zeros}
use Rattle.radius_defs.specs.Message.{behind_first, signed, with_message, AwaitsSigning}
use Rattle.aaa_defs.specs.Request.{Ask, request_attributes, unsigned_request}
use Rattle.aaa_defs.proofs.Unsigned.{not-signed}
use Rattle.aaa_client.proofs.request.write_request.Goals as goal

-- the request, with zeros for its Message-Authenticator
built : (c : Config) (a : Ask) (session identifier : ℕ) (auth : List ℕ) (begun put : Packet)
    → put ≡ record begun { attributes = begun.attributes ++ request_attributes c a session }
    → begun ≡ with_message (record { code = ACCESS_REQUEST; identifier = identifier; authenticator = auth; attributes = [] }) (zeros 16)
    → put ≡ with_message (unsigned_request c a session identifier auth) (zeros 16)
built c a session identifier auth begun put is start =
    is ∙ ap (λ (p : Packet). record p { attributes = p.attributes ++ request_attributes c a session }) start

awaits : (c : Config) (a : Ask) (session identifier : ℕ) (auth : List ℕ) (put : Packet) → put ≡ with_message (unsigned_request c a session identifier auth) (zeros 16) → AwaitsSigning put
awaits c a session identifier auth put is = record {
  first = is ∙ ap (λ (p : Packet). with_message (behind_first p) (zeros 16)) (sym is);
  only = ap (λ (p : Packet). first_value MESSAGE_AUTHENTICATOR (behind_first p).attributes) is ∙ not-signed c a session;
}

pub sign-requires : goal.sign-requires
sign-requires c =
    awaits c.args.c.now c.args.a.now c.args.session c.args.id c.args.auth c.put_attributes.new.packet
    (built c.args.c.now c.args.a.now c.args.session c.args.id c.args.auth c.restart.new.packet c.put_attributes.new.packet c.put_attributes.ensures.attributes c.restart.ensures.packet)

pub returns : goal.returns
returns c =
    let secret : c.as_slice.result.now ≡ c.args.c.now.secret = c.as_slice.ensures.value ∙ ap (λ s. s.secret) c.c.view_is in
    let is = built c.args.c.now c.args.a.now c.args.session c.args.id c.args.auth c.restart.new.packet c.put_attributes.new.packet c.put_attributes.ensures.attributes c.restart.ensures.packet in
    c.sign.ensures.packet
    ∙ ap (λ (p : Packet). signed (behind_first p) c.args.auth c.as_slice.result.now) is
    ∙ ap (signed (unsigned_request c.args.c.now c.args.a.now c.args.session c.args.id c.args.auth) c.args.auth) secret
